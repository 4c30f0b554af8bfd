-- Words of operands in a row.
use Rattle.std.proofs.Common.{◌≡◌, ℕ, List, [], ◌∷◌, ◌++◌, Option, refl}
use Rattle.rule_uses.specs.Questions.{result_word}
use Rattle.rule_uses.specs.Uses.{local_of}
use Rattle.ir_model.specs.declared.operand.Operand.{Operand}
use Rattle.frame_crossing.specs.Words.{operands_word}

pub operands_word_append : (numbers : List (Option ℕ)) (chunk word : ℕ) (xs ys : List Operand) →
    operands_word numbers chunk word (xs ++ ys) ≡ operands_word numbers chunk (operands_word numbers chunk word xs) ys
operands_word_append numbers chunk word [] ys = refl
operands_word_append numbers chunk word (x ∷ xs) ys = operands_word_append numbers chunk (result_word numbers chunk word (local_of x)) xs ys
