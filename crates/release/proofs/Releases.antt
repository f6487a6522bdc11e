-- Which release a number names, and which is the wider. Assumes nothing.
use Prim.Native.Nat.{◌≤◌}
use native.Mathlib.Omega.{arith}
use mathlib.Core.Path.{◌≡◌, refl}
use Rattle.wire.specs.Tests.{if_eq}
use Rattle.release.specs.declared.Release.{Release}
use Rattle.release.specs.declared.Release.TheVariants.{Release4, Release6}
use Rattle.release.specs.Releases.{release_number, release_named, most_frames}

-- no release takes more frames than Release 4, and none fewer than Release 6
pub most_wider : (release : Release) → most_frames release ≤ most_frames Release4
most_wider Release4 = omega arith
most_wider Release6 = omega arith

pub most_narrower : (release : Release) → most_frames Release6 ≤ most_frames release
most_narrower Release4 = omega arith
most_narrower Release6 = omega arith

-- a release is named by its number
pub named_back : (release : Release) → release_named (release_number release) ≡ release
unfolding release_named if_eq
named_back Release4 = refl
named_back Release6 = refl
