-- Rule 2: "Boxes tile the file and each container exactly", so that nothing stands past the last whole box. An open box reaches to the
-- end, and only the file's own list may have one: "size 0 anywhere else still breaks rule 2".
use Rattle.std.specs.Prelude.{ℕ, Bool, true, false}
use Rattle.wire.specs.Tests.{pick, if_eq}
use Rattle.boxes.specs.declared.walk.Form.{Form}
use Rattle.boxes.specs.Box.{Box, is_open}
use Rattle.boxes.specs.Boxes.{nothing}
use Rattle.boxes.specs.Containers.{FILE}
use Rattle.rule.specs.Judge.{Judge}
use Rattle.rule.specs.Rule.{Rule, placed_by, with_each}

abbrev pub tiled_rule : Rule
tiled_rule = record { leaf = λ k c b. true; node = λ k xs. true; end = nothing }

-- a box may have a form in a container of kind k
unfoldable pub may_have : ℕ → Form → Bool
may_have k f = if_eq k FILE true (pick (is_open f) false true)

abbrev pub shut_in : ℕ → Box → Bool
shut_in k x = may_have k x.form

abbrev pub two_rule : Rule
two_rule = with_each shut_in tiled_rule

abbrev pub two : Judge
two = placed_by shut_in tiled_rule
