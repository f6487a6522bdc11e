-- What the table writer comes to on a file's own sheet, and the two calls one after the other. Assumes nothing.
use Prim.Native.Nat.{ℕ, ◌-◌, ◌≤◌, ◌<◌}
use mathlib.Core.Path.{◌≡◌, ap}
use mathlib.Core.Bool.{true}
use mathlib.Core.List.{List}
use mathlib.Core.Logic.{◌⊎◌}
use lib.ListN.{length, take}
use Rattle.wire.specs.Numbers.{Bytes}
use Rattle.wire.proofs.Clauses.{is_le_lem}
use Rattle.movie.specs.Movie.{tracks}
use Rattle.movie.specs.Stsds.{stsds, standing}
use Rattle.movie.specs.Entries.{entries}
use Rattle.rule.specs.Results.{asked, answer_in, left_in}
use Rattle.rule.specs.Results.ToWrite.{gives, refuses}
use Rattle.judge.specs.Acceptance.{Meets}
use Rattle.judge.proofs.Calls.{result_done}
use Rattle.sheet.specs.Reader.{sheet_of, sheet_result}
use Rattle.sheet_table.specs.Form.{steps}
use Rattle.sheet_table.specs.Table.{own_entries, table, track_table, table_result}
use Rattle.sheet_table.proofs.Tracks.{formed_steps, has_track_lem, no_track}
use Rattle.promise_trips.proofs.Returned.{own_formed, own_unsheet, own_none, own_some, table_returns, standing_short}
use Rattle.rule.specs.Answers.{Done}

module _ (xs : List ℕ) (m : Meets xs) (v : Bytes xs) (t : ℕ) where
  own_steps : steps 0 (entries xs) ≡ true
  own_steps = rw (own_unsheet xs m v) at (formed_steps (sheet_of xs) (own_formed xs m v))

  -- 30 cannot happen
  pub no_table : (t ≡ 0) ⊎ (tracks xs < t) → table_result (sheet_of xs) t ≡ refuses 20 0
  unfolding table_result asked
  no_table h = rw (own_formed xs m v, own_unsheet xs m v, ← no_track t (entries xs) own_steps (ap length (own_none xs m v t h)))

  -- nor can 20, nor 24, since the result is no longer than the file
  pub own_table : 1 ≤ t → t ≤ tracks xs → table_result (sheet_of xs) t ≡ gives (standing xs (stsds xs) (t - 1))
  unfolding table_result asked track_table
  own_table h k =
      let w : table (own_entries t (entries xs)) ≡ standing xs (stsds xs) (t - 1) = rw (own_unsheet xs m v) at (table_returns xs m v t h k) in
      rw (own_formed xs m v, own_unsheet xs m v, ← has_track_lem t (entries xs) own_steps (own_some xs m v t h k), w, is_le_lem _ _ (standing_short xs m v t h k))

-- ---- the sheet reader

module _ (xs : List ℕ) (out : List ℕ) (n : ℕ) (e : answer_in (sheet_result xs) out ≡ Done n) where
  -- a file whose sheet is read is accepted, and what was written is its sheet
  pub sheet_meets : Meets xs
  unfolding sheet_result
  sheet_meets = (result_done xs _ _ out n e).meets

  pub sheet_taken : take n (left_in (sheet_result xs) out) ≡ sheet_of xs
  unfolding sheet_result
  sheet_taken = let d = result_done xs _ _ out n e in rw d.is d.gave.taken
