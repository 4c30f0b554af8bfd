-- A rule that no part of a function breaks is broken by no part of the function some of whose edges lead over blocks of their own.
use Rattle.std.proofs.Common.{◌≡◌, ℕ, Bool, true, false, None, Some, ap, length, not, refl, subst, sym, ⊎_elim, ◌+◌, ◌∙◌}
use Rattle.std.specs.Prelude.{slice_get, ◌==◌}
use Rattle.ir_laws.specs.ir_base.declared.outcome.Place.{Place}
use Rattle.ir_laws.proofs.facts.Truth.{equal_numbers}
use Rattle.rule_laws.proofs.rules.renamed.Switches.{none_part}
use Rattle.ir_laws.proofs.facts.local_rules.Woven.{other_number}
use Rattle.rule_laws.proofs.rules.path_rules.Holding.{HoldsIn, of_parts, part_none, to_parts}
use Rattle.rule_laws.proofs.rules.rows.Carried.{AreAlikePlaced}
use Rattle.ir_laws.specs.flow_solver.Paths.{IsListed}
use Rattle.ir_parts.specs.Parts.{Ending, Head, OfInstr, OfPhi, Part, Signature, block_place, first_part, function_place, instr_place, parts_of}
use Rattle.ir_laws.specs.ir_model.declared.instr.Instr.{Instr}
use Rattle.ir_laws.specs.ir_model.declared.instr.Phi.{Phi}
use Rattle.ir_laws.specs.ir_model.declared.instr.Terminator.{Terminator}
use Rattle.ir_laws.specs.ir_model.declared.module.Block.{Block}
use Rattle.ir_laws.specs.ir_model.declared.module.Function.{Function}
use Rattle.ir_laws.specs.ir_paths.Paths.{targets}
use Rattle.rule_locals.specs.Instrs.{on_instr}
use Rattle.ir_laws.proofs.paths.threaded.Threads.{IsBlockOver, IsMovedBlock, Moves, between, ended}
use Rattle.rule_laws.proofs.rules.threaded.Threads.{IsThreaded}

-- what each part has become breaks the rule nowhere, if the part doesn't
pub record Carries (f g : Function) (s : Moves) (breaks now : Place → Part → Bool) : Type 0 where
  pub signature : (p : Place) → breaks p (Signature f) ≡ false → now p (Signature g) ≡ false
  pub head : (q : Place) (c : Block) → now q (Head c) ≡ false
  pub phi : (p q : Place) (k : ℕ) (b : Block) (j : ℕ) (x : Phi) → slice_get f.blocks k ≡ Some b → slice_get b.phis j ≡ Some x → breaks p (OfPhi x) ≡ false → now q (OfPhi x) ≡ false
  pub instr : (p q : Place) (i : Instr) → AreAlikePlaced p q → breaks p (OfInstr i) ≡ false → now q (OfInstr i) ≡ false
  pub ending : (p q : Place) (k : ℕ) (b : Block) → slice_get f.blocks k ≡ Some b → breaks p (Ending b.term) ≡ false → now q (Ending (s.term k b)) ≡ false
  pub over : (q : Place) (k : ℕ) (b : Block) (t : ℕ) → slice_get f.blocks k ≡ Some b → IsListed t (targets b.term) → now q (Ending (Terminator.Jump t)) ≡ false

-- a rule on instructions alone
pub on_instrs : (f g : Function) (s : Moves) (breaks now : Place → Instr → Bool) → ((p q : Place) (i : Instr) → AreAlikePlaced p q → breaks p i ≡ false → now q i ≡ false) → Carries f g s (on_instr breaks) (on_instr now)
on_instrs f g s breaks now h = record {
  signature = λ p e. refl;
  head = λ q c. refl;
  phi = λ p q k b j x there stands e. refl;
  instr = h;
  ending = λ p q k b there e. refl;
  over = λ q k b t there l. refl;
}

module _ (f g : Function) (s : Moves) (t : IsThreaded f g s) where
  -- the entry stays the first block, and no other one becomes it
  pub entry_same : (k : ℕ) → (s.spot k == 0) ≡ (k == 0)
  entry_same k = on (k == 0) refl
    where
      on : (b : Bool) → (k == 0) ≡ b → (s.spot k == 0) ≡ b
      on true e = ap (λ (n : ℕ). s.spot n == 0) (equal_numbers k 0 e) ∙ ap (λ (n : ℕ). n == 0) t.entry
      on false e = other_number (s.spot k) 0 (λ same. let first : k ≡ 0 = t.spots k 0 (same ∙ sym t.entry) in let no : true ≡ false = sym (ap (λ (n : ℕ). n == 0) first) ∙ e in absurd (cc))

  module _ (breaks now : Place → Part → Bool) (over : Carries f g s breaks now) (func : ℕ) where
    abbrev P : Place × Part → Type 0
    P x = breaks x.0 x.1 ≡ false

    abbrev Q : Place × Part → Type 0
    Q x = now x.0 x.1 ≡ false

    own_holds : (k : ℕ) (b : Block) → slice_get f.blocks k ≡ Some b → HoldsIn P func k b → HoldsIn Q func (s.spot k) (ended b (s.term k b))
    own_holds k b there h = record {
      head = over.head (block_place func (s.spot k)) (ended b (s.term k b));
      phis = λ j x e. over.phi (instr_place func k j) (instr_place func (s.spot k) j) k b j x there e (h.phis j x e);
      instrs = λ j i e. over.instr (instr_place func k (length b.phis + j)) (instr_place func (s.spot k) (length b.phis + j)) i (ap not (entry_same k)) (h.instrs j i e);
      ending = over.ending (instr_place func k (length b.phis + length b.instrs)) (instr_place func (s.spot k) (length b.phis + length b.instrs)) k b there h.ending;
    }

    over_holds : (at k : ℕ) (b : Block) (l u : ℕ) → slice_get f.blocks k ≡ Some b → IsListed u (targets b.term) → HoldsIn Q func at (between l u)
    over_holds at k b l u there listed = record {
      head = over.head (block_place func at) (between l u);
      phis = λ j x d. absurd (cc);
      instrs = λ j x d. absurd (cc);
      ending = over.over (instr_place func at (length (between l u).phis + length (between l u).instrs)) k b u there listed;
    }

    pub carried : first_part breaks (parts_of func f) ≡ None → first_part now (parts_of func g) ≡ None
    carried e =
        let parts = of_parts P func f (none_part breaks (parts_of func f) e) in
        part_none now (parts_of func g) (to_parts Q func g (record {
          signature = over.signature (function_place func) parts.signature;
          blocks = λ at c there. ⊎_elim
              (λ (x : IsMovedBlock f s at c). subst (λ (k : ℕ). HoldsIn Q func k c) (sym x.stands) (subst (HoldsIn Q func (s.spot x.index)) (sym x.is) (own_holds x.index x.block x.got (parts.blocks x.index x.block x.got))))
              (λ (x : IsBlockOver f g s at c). subst (HoldsIn Q func at) (sym x.is) (over_holds at x.index x.block x.label x.target x.got x.listed))
              (t.home at c there);
        }))
