-- The names that instructions and terminators take.
use Rattle.std.proofs.Common.{◌≡◌, ℕ, Bool, true, false, ◌||◌, List, Some, None, refl}
use Rattle.std.specs.Prelude.{◌&&◌, ◌==◌, not}
use Rattle.ir_model.specs.Names.{is_local}
use Rattle.ir_model.specs.declared.instr.Instr.{Instr}
use Rattle.ir_model.specs.declared.instr.Terminator.{Terminator}
use Rattle.ir_model.specs.declared.operand.Callee.{Callee}
use Rattle.ir_paths.specs.Slots.{occurs, occurs_in_term}
use Rattle.frame_slots.proofs.Marks.{Marks, marks_args, marks_if, marks_name, marks_none, marks_operand, marks_same}
use Rattle.frame_slots.specs.Uses.{is_no_use_in}
use Rattle.frame_slots.specs.Words.{name_word, occurring, used, with_operand, with_term}

or_none : (b : Bool) → b ≡ (b || false)
or_none true = refl
or_none false = refl

module _ (words : List ℕ) where
  pub marks_occurring : (i : Instr) → Marks words (λ v. occurs v i) (occurring words i)
  marks_occurring (Instr.Binary name op flags ty a b) = marks_operand words (λ v. is_local v a) (with_operand words 0 a) (marks_operand words (λ v. false) 0 (marks_none words) a) b
  marks_occurring (Instr.Icmp name pred ty a b) = marks_operand words (λ v. is_local v a) (with_operand words 0 a) (marks_operand words (λ v. false) 0 (marks_none words) a) b
  marks_occurring (Instr.Select name x a b) =
      marks_operand words (λ v. is_local v x || is_local v a.value) (with_operand words (with_operand words 0 x) a.value)
      (marks_operand words (λ v. is_local v x) (with_operand words 0 x) (marks_operand words (λ v. false) 0 (marks_none words) x) a.value) b.value
  marks_occurring (Instr.Cast name op nneg arg to) = marks_operand words (λ v. false) 0 (marks_none words) arg.value
  marks_occurring (Instr.Alloca name ty align) = marks_none words
  marks_occurring (Instr.Load name ty p align) = marks_operand words (λ v. false) 0 (marks_none words) p
  marks_occurring (Instr.Store arg p align) = marks_operand words (λ v. is_local v arg.value) (with_operand words 0 arg.value) (marks_operand words (λ v. false) 0 (marks_none words) arg.value) p
  marks_occurring (Instr.Gep name inbounds ty base indices) = marks_args words (λ v. is_local v base) (with_operand words 0 base) (marks_operand words (λ v. false) 0 (marks_none words) base) indices
  marks_occurring (Instr.Call result must_tail ty (Callee.Named n) args) = marks_args words (λ v. false) 0 (marks_none words) args
  marks_occurring (Instr.Call result must_tail ty (Callee.Allocator n) args) = marks_args words (λ v. false) 0 (marks_none words) args
  marks_occurring (Instr.Call result must_tail ty (Callee.Intrinsic n) args) = marks_args words (λ v. false) 0 (marks_none words) args
  marks_occurring (Instr.Call result must_tail ty (Callee.Local n) args) = marks_args words (λ v. v == n) (name_word words n) (marks_name words n) args

  pub marks_used : (i : Instr) → Marks words (λ v. not (is_no_use_in i) && occurs v i) (used words i)
  marks_used i = marks_if words (is_no_use_in i) (λ v. occurs v i) (occurring words i) (marks_occurring i)

  pub marks_term : (t : ℕ → Bool) (word : ℕ) → Marks words t word → (e : Terminator) → Marks words (λ v. t v || occurs_in_term v e) (with_term words word e)
  marks_term t word m (Terminator.Jump label) = marks_same words t (λ v. t v || false) word (λ v. or_none (t v)) m
  marks_term t word m (Terminator.Branch x a b) = marks_operand words t word m x
  marks_term t word m (Terminator.Switch arg default cases) = marks_operand words t word m arg.value
  marks_term t word m (Terminator.Ret None) = marks_same words t (λ v. t v || false) word (λ v. or_none (t v)) m
  marks_term t word m (Terminator.Ret (Some arg)) = marks_operand words t word m arg.value
  marks_term t word m Terminator.Unreachable = marks_same words t (λ v. t v || false) word (λ v. or_none (t v)) m
