-- A rule that no part of a function breaks is broken by no part of the function with its allocas in front.
use Rattle.std.proofs.Common.{◌≡◌, ℕ, ◌+◌, Bool, false, None, length, refl}
use Rattle.ir_laws.specs.ir_base.declared.outcome.Place.{Place}
use Rattle.rule_laws.proofs.rules.renamed.Switches.{none_part}
use Rattle.rule_laws.proofs.rules.path_rules.Holding.{HoldsIn, of_parts, part_none, to_parts}
use Rattle.ir_laws.specs.pass_front.Front.{allocas_first, with_front_allocas}
use Rattle.ir_parts.specs.Parts.{Ending, Head, OfInstr, OfPhi, Part, Signature, block_place, first_part, function_place, instr_place, parts_of}
use Rattle.ir_laws.specs.ir_model.declared.instr.Instr.{Instr}
use Rattle.ir_laws.specs.ir_model.declared.instr.Phi.{Phi}
use Rattle.ir_laws.specs.ir_model.declared.instr.Terminator.{Terminator}
use Rattle.ir_laws.specs.ir_model.declared.module.Block.{Block}
use Rattle.ir_laws.specs.ir_model.declared.module.Function.{Function}
use Rattle.rule_locals.specs.Instrs.{on_instr}
use Rattle.ir_laws.proofs.facts.Numbers.{First, IsSource, Same}
use Rattle.ir_laws.proofs.facts.Lists.{came_from, source_of}

-- what each part has become breaks the rule nowhere, if the part doesn't
pub record Carries (f : Function) (breaks now : Place → Part → Bool) : Type 0 where
  pub signature : (p : Place) → breaks p (Signature f) ≡ false → now p (Signature (with_front_allocas f)) ≡ false
  pub head : (p : Place) (b c : Block) → IsSource b c → breaks p (Head b) ≡ false → now p (Head c) ≡ false
  pub phi : (p : Place) (x : Phi) → breaks p (OfPhi x) ≡ false → now p (OfPhi x) ≡ false
  pub instr : (p q : Place) (i : Instr) → q.block ≡ p.block → breaks p (OfInstr i) ≡ false → now q (OfInstr i) ≡ false
  pub ending : (p q : Place) (t : Terminator) → q.block ≡ p.block → breaks p (Ending t) ≡ false → now q (Ending t) ≡ false

-- a rule on instructions alone
pub on_instrs : (f : Function) (breaks now : Place → Instr → Bool) → ((p q : Place) (i : Instr) → q.block ≡ p.block → breaks p i ≡ false → now q i ≡ false) → Carries f (on_instr breaks) (on_instr now)
on_instrs f breaks now h = record {
  signature = λ p e. refl;
  head = λ p b c s e. refl;
  phi = λ p x e. refl;
  instr = h;
  ending = λ p q t same e. refl;
}

module _ (f : Function) (breaks now : Place → Part → Bool) (over : Carries f breaks now) (func : ℕ) where
  abbrev P : Place × Part → Type 0
  P x = breaks x.0 x.1 ≡ false

  abbrev Q : Place × Part → Type 0
  Q x = now x.0 x.1 ≡ false

  block_holds : (k : ℕ) (b c : Block) → IsSource b c → HoldsIn P func k b → HoldsIn Q func k c
  block_holds k b _ Same h = record {
    head = over.head (block_place func k) b b Same h.head;
    phis = λ j x e. over.phi (instr_place func k j) x (h.phis j x e);
    instrs = λ j i e. over.instr (instr_place func k (length b.phis + j)) (instr_place func k (length b.phis + j)) i refl (h.instrs j i e);
    ending = over.ending (instr_place func k (length b.phis + length b.instrs)) (instr_place func k (length b.phis + length b.instrs)) b.term refl h.ending;
  }
  block_holds k b _ First h = record {
    head = over.head (block_place func k) b (allocas_first b) First h.head;
    phis = λ j x e. over.phi (instr_place func k j) x (h.phis j x e);
    instrs = λ j i e. let x = came_from b.instrs j i e in over.instr (instr_place func k (length b.phis + x.at)) (instr_place func k (length b.phis + j)) i refl (h.instrs x.at i x.there);
    ending = over.ending (instr_place func k (length b.phis + length b.instrs)) (instr_place func k (length b.phis + length (allocas_first b).instrs)) b.term refl h.ending;
  }

  pub carried : first_part breaks (parts_of func f) ≡ None → first_part now (parts_of func (with_front_allocas f)) ≡ None
  carried e =
      let parts = of_parts P func f (none_part breaks (parts_of func f) e) in
      part_none now (parts_of func (with_front_allocas f)) (to_parts Q func (with_front_allocas f) (record {
        signature = over.signature (function_place func) parts.signature;
        blocks = λ k c there. let x = source_of f.blocks k c there in block_holds k x.0 c x.1.1 (parts.blocks k x.0 x.1.0);
      }))
