-- The refusals of a file that is given to salvage, and what is known where it isn't refused, branch by branch of the code. Assumes nothing.
use Prim.Native.Nat.{ℕ, ◌≤◌, ◌<◌}
use native.Mathlib.Omega.{arith}
use mathlib.Core.Path.{◌≡◌, ap, ◌∙◌}
use mathlib.Core.Bool.{true, false}
use mathlib.Core.List.{List}
use lib.ListN.{length, drop, length-drop}
use Rattle.wire.proofs.Clauses.{not_le}
use Rattle.boxes.specs.Containers.{LONGEST}
use Rattle.rule.specs.Results.{length_fine}
use Rattle.rule.proofs.Results.{test_not, test_so, reports_refused, length_fine_lem}
use Rattle.frames.specs.declared.codec.Codec.{Codec}
use Rattle.frames.specs.declared.run.Run.{Run}
use Rattle.frames.specs.Frames.{frames_to}
use Rattle.frames.specs.Modes.{RunOf}
use Rattle.from_amr.specs.Dump.{MOST_FRAMES}
use Rattle.std.specs.declared.option.Option.{Option}
use Rattle.std.specs.declared.option.Option.TheVariants.{Some}
use Rattle.salvage.specs.Unfinished.{unfinished}
use Rattle.salvage.specs.Salvage.{kept_frames, salvage_result, Salvages}
use Rattle.salvage.specs.Found.{Found}
use Rattle.salvage.proofs.Keeping.{kept_most, kept_inside}
use Rattle.salvage.proofs.Fronts.{start_of, such, payload_is}
use Rattle.rule.specs.Answers.{Refused}

module _ (k : Codec) (xs out room : List ℕ) where
  pub no_file : length_fine xs ≡ false → Salvages k xs out (Refused 1 0) out room room
  unfolding salvage_result
  no_file e = reports_refused room (test_not 1 _ _ _ out e)

  module _ (f : length_fine xs ≡ true) where
    pub another_file : unfinished xs ≡ false → Salvages k xs out (Refused 60 0) out room room
    unfolding salvage_result
    another_file e = reports_refused room (test_so 1 _ _ _ out f (test_not 60 _ _ _ out e))

    pub no_frame : unfinished xs ≡ true → length (kept_frames k xs) < 1 → Salvages k xs out (Refused 61 0) out room room
    unfolding salvage_result
    no_frame u h = reports_refused room (test_so 1 _ _ _ out f (test_so 60 _ _ _ out u (test_not 61 _ _ _ out (not_le _ _ h))))

-- ---- where they hold

-- the run that code reads from where the payload starts
pub run_kept : (k : Codec) (xs : List ℕ) {o : Option ℕ} {s : ℕ} {ys : List ℕ} {r : Run} → o ≡ start_of xs → o ≡ Some s → ys ≡ drop s xs
    → RunOf (frames_to MOST_FRAMES k ys) r → RunOf (kept_frames k xs) r
unfolding kept_frames
run_kept k xs e z y p = rw (y ∙ payload_is xs (such xs e z).1) at p

pub found : (k : Codec) (xs : List ℕ) {o : Option ℕ} {s : ℕ} {r : Run} → 8 ≤ length xs → length xs ≤ LONGEST → o ≡ start_of xs → s ≤ length xs → o ≡ Some s
    → RunOf (kept_frames k xs) r → (r.count ≡ 0 → ⊥) → Found k xs s r
found k xs {s = s} g m e l z p c =
    let u = such xs e z in
    record {
      fine = length_fine_lem xs g m;
      most = m;
      such = u.0;
      starts = u.1;
      frames = p;
      some = omega arith;
      few = omega (arith, kept_most k xs);
      inside = omega (arith, kept_inside k xs, ap length (payload_is xs u.1), length-drop s xs);
    }
