-- No front, and a list.
use native.Mathlib.Omega.{arith}
use mathlib.Core.Path.{refl}
use Rattle.layout.proofs.Everything.{track_of_lem}
use Rattle.layout.proofs.Listing.{list_short, list_lies, list_at}
use Rattle.layout.proofs.entries.list.Goals as goal

pub overflow_sub-stsd : goal.overflow_sub-stsd
overflow_sub-stsd c = let p = c.requires in
    let a = track_of_lem p.0 _ p.1 c.track-k.ensures in
    omega (arith, a.stsd.lies.order)

pub returns-then-stsd-lt-FRONT : goal.returns-then-stsd-lt-FRONT
returns-then-stsd-lt-FRONT c = let p = c.requires in
    let a = track_of_lem p.0 _ p.1 c.track-k.ensures in
    list_short _ _ a.stsd c.none.ensures (omega arith)

pub overflow_add-s : goal.overflow_add-s
overflow_add-s c = let p = c.requires in
    let a = track_of_lem p.0 _ p.1 c.track-k.ensures in
    omega (arith, a.stsd.lies.order, a.stsd.lies.inside)

pub bytes-requires : goal.bytes-requires
bytes-requires c = let p = c.requires in
    let a = track_of_lem p.0 _ p.1 c.track-k.ensures in
    list_lies _ _ a.stsd (omega arith) _ refl refl

pub returns : goal.returns
returns c = let p = c.requires in
    let a = track_of_lem p.0 _ p.1 c.track-k.ensures in
    list_at _ _ a.stsd (omega arith) _ refl refl (rw c.bytes.ensures at c.count.ensures.0) a.place
