-- The lines of a file that is judged. Assumes nothing.
use Prim.Native.Nat.{ℕ}
use mathlib.Core.Path.{◌≡◌}
use mathlib.Core.List.{List}
use Rattle.rule.specs.Results.{Exact}
use Rattle.rule.specs.Results.ToWrite.{gives}
use Rattle.judge.specs.Judgement.{judged, Judgement, Accepted}
use Rattle.listing.specs.Lines.{refused_line}
use Rattle.listing.specs.Listing.{accepted_lines, lines_for, listing_result}
use Rattle.rule.specs.Answers.{Answer, Refused}

module _ (xs out : List ℕ) {j : Judgement} (e : j ≡ judged xs) {r : Answer} {left : List ℕ} where
  pub listed_accepted : j ≡ Accepted → Exact (gives (accepted_lines xs)) out r left → Exact (listing_result xs) out r left
  unfolding lines_for listing_result
  listed_accepted f x = rw (← e, f) x

  pub listed_refused : {n p : ℕ} → j ≡ Refused n p → Exact (gives (refused_line n p)) out r left → Exact (listing_result xs) out r left
  unfolding lines_for listing_result
  listed_refused f x = rw (← e, f) x
