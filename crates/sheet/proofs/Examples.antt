-- The two editions, by computation.
use mathlib.Core.Path.{◌≡◌, refl}
use Rattle.wire.specs.Tests.{if_le}
use Rattle.sheet.specs.Sheet.{First, Second, edition_for, bodies_at}

editions : (edition_for 8 ≡ First) × (bodies_at First ≡ 100) × (edition_for 9 ≡ Second) × (bodies_at Second ≡ 388)
unfolding if_le edition_for
editions = (refl, refl, refl, refl)
