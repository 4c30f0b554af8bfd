-- Pieces of which woven lists of instructions are put together.
use Rattle.std.proofs.Common.{◌≡◌, inl, inr, ℕ, false, List, [], ◌∷◌, ◌++◌, refl, sym, ap, ◌∙◌}
use Rattle.std.specs.Prelude.{Some}
use Rattle.rule_uses.specs.Uses.{made_by_instrs}
use Rattle.ir_laws.proofs.paths.source_rules.Locals.{listed_left, listed_right}
use Rattle.rule_laws.proofs.rules.source_rules.Locals.{made_by}
use Rattle.ir_laws.specs.flow_solver.Paths.{IsListed}
use Rattle.ir_parts.specs.Contents.{instr_operands, result_of}
use Rattle.ir_laws.specs.ir_model.declared.instr.Incoming.{Incoming}
use Rattle.ir_laws.specs.ir_model.declared.instr.Instr.{Instr}
use Rattle.ir_laws.specs.ir_model.declared.instr.Phi.{Phi}
use Rattle.ir_laws.specs.ir_model.declared.module.Function.{Function}
use Rattle.ir_laws.specs.ir_model.declared.module.Module.{Module}
use Rattle.ir_laws.specs.ir_model.declared.operand.Operand.{Operand}
use Rattle.ir_laws.specs.run_laws.changed.Changed.{Each}
use Rattle.ir_laws.proofs.facts.Members.{each_turns}
use Rattle.rule_laws.proofs.rules.woven_rules.Operands.{instr_itself}
use Rattle.rule_laws.proofs.rules.woven_rules.ValueKinds.{is_result, made_grows}
use Rattle.rule_laws.specs.rules.woven_rules.Blocks.{AreWoven, IsPutIn, Kept, Put, Stays}
use Rattle.ir_laws.specs.facts.woven_rules.Pairs.{Empty, Pair, Pairwise}
use Rattle.rule_laws.specs.rules.woven_rules.Parts.{IncomingStays, PhiStays}
use Rattle.rule_laws.specs.rules.woven_rules.Weaving.{Constant, Front, IsInPlace, IsKnown, New, Old, Same, Weaving, goes_in}

-- ---- what instructions make

pub made_joined : (before : List ℕ) (is js : List Instr) → made_by_instrs before (is ++ js) ≡ made_by_instrs (made_by_instrs before is) js
made_joined before [] js = refl
made_joined before (i ∷ is) js = made_joined (made_by i ++ before) is js

pub made_contains : (before : List ℕ) (is : List Instr) (j : Instr) (k : ℕ) → IsListed j is → result_of j ≡ Some k → IsListed k (made_by_instrs before is)
made_contains before [] j k l e = absurd l
made_contains before (i ∷ is) j k (inl same) e = made_grows is (made_by i ++ before) k (listed_left k (made_by i) before (is_result (result_of i) k (sym (ap result_of same) ∙ e)))
made_contains before (i ∷ is) j k (inr l) e = made_contains (made_by i ++ before) is j k l e

-- ---- what stays as it is

module _ (w : Weaving) (f : Function) where
  abbrev Still : Operand → Type 0
  Still x = goes_in w x ≡ false

  pub still_stays : (made : List ℕ) (i : Instr) → Each (λ (x : Operand). goes_in w x ≡ false) (instr_operands i) → Stays w f made i i
  still_stays made i h = Kept i i (instr_itself (IsInPlace w f made) i (each_turns Still (λ (x : Operand). IsInPlace w f made x x) (λ x e. Same x e) (instr_operands i) h)) (λ mark. record { same = refl; slot = h })

  -- what is known stays known where more is made
  pub known_more : (block : ℕ) (made now : List ℕ) → ((n : ℕ) → IsListed n made → IsListed n now) → (x : Operand) → IsKnown w f block made x → IsKnown w f block now x
  known_more block made now up _ (New n low l) = New n low (up n l)
  known_more block made now up _ (Front n not_entry l) = Front n not_entry l
  known_more block made now up _ (Old v stays e there) = Old v stays e (λ reach unmade no_param. there reach (λ l. unmade (up v l)) no_param)
  known_more block made now up _ (Constant x e) = Constant x e

-- ---- instructions that are put in one behind the other

pub listed_woven : (w : Weaving) (m : Module) (f : Function) (block : ℕ) (now : List ℕ) (es is tail : List Instr) → ((j : Instr) → IsListed j es → (later : List ℕ) → ((v : ℕ) → IsListed v now → IsListed v later) → IsPutIn w m f block later j) → AreWoven w m f block (made_by_instrs now es) is tail → AreWoven w m f block now is (es ++ tail)
listed_woven w m f block now [] is tail puts rest = rest
listed_woven w m f block now (j ∷ es) is tail puts rest =
    Put now j is (es ++ tail) (puts j (inl refl) now (λ v l. l))
    (listed_woven w m f block (made_by j ++ now) es is tail (λ i l later up. puts i (inr l) later (λ v h. up v (listed_right v (made_by j) now h))) rest)

-- ---- phis that stay as they are

incoming_itself : (R : ℕ → Operand → Operand → Type 0) → ((from : ℕ) (x : Operand) → R from x x) → (is : List Incoming) → Pairwise (IncomingStays R) is is
incoming_itself R h [] = Empty
incoming_itself R h (i ∷ is) = Pair i i is is (record { from = refl; value = h i.from i.value }) (incoming_itself R h is)

pub phis_itself : (R : ℕ → Operand → Operand → Type 0) → ((from : ℕ) (x : Operand) → R from x x) → (ps : List Phi) → Pairwise (PhiStays R) ps ps
phis_itself R h [] = Empty
phis_itself R h (p ∷ ps) = Pair p p ps ps (record { result = refl; ty = refl; incoming = incoming_itself R h p.incoming }) (phis_itself R h ps)
