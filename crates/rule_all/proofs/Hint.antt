-- The file's first `mdat`, as it was found, is a payload to look for chunks in first. Assumes nothing.
use Prim.Native.Nat.{ℕ}
use native.Mathlib.Omega.{arith}
use mathlib.Core.Path.{◌≡◌, refl, sym, ap, ◌∙◌}
use mathlib.Core.List.{List}
use lib.ListN.{length}
use Rattle.codes.specs.Codes.{MDAT}
use Rattle.boxes.specs.Boxes.{boxes}
use Rattle.boxes.specs.Seek.{find}
use Rattle.mdat.specs.declared.payload.Payload.{Payload}
use Rattle.mdat.specs.Search.{Media, FirstMedia}
use Rattle.layout.specs.declared.gather.Slot.{Slot}
use Rattle.layout.specs.Slots.{slot_in}
use Rattle.layout.specs.Tracks.{whole_of, FirstMdat}
use Rattle.layout.proofs.Slots.{slot_length}
use Rattle.layout.proofs.Laying.{place_in}
use Rattle.layout.proofs.LayingOut.{all_is}

pub hint_media : {xs : List ℕ} {s : Slot} {p : Payload} → FirstMdat xs s → FirstMedia s.from s.to p → Media xs p
hint_media {xs} {s} k f =
    let e : slot_in xs (whole_of xs) ≡ xs = all_is refl in
    f.media xs (sym (slot_length k.lies) ∙ ap length k.is ∙ ap (λ (ys : List ℕ). length (find MDAT (boxes ys))) e)
    (λ h. place_in MDAT k e h ∙ omega arith)
