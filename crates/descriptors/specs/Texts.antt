-- A descriptor as it is written.
use Rattle.std.specs.Prelude.{ℕ, List, ◌++◌, length}
use Rattle.wire.specs.Numbers.{bytes}
use Rattle.descriptors.specs.Lengths.{shortest}

-- its tag and the length of its contents, "with shortest lengths"
unfoldable pub head_text : (tag n : ℕ) → List ℕ
head_text tag n = bytes 1 tag ++ shortest n

unfoldable pub descriptor_text : ℕ → List ℕ → List ℕ
descriptor_text tag xs = head_text tag (length xs) ++ xs
