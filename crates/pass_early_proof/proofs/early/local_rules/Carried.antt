-- A rule that no part of a function breaks is broken by no part of what the pass turns the function to.
use Rattle.std.proofs.Common.{◌≡◌, ℕ, ◌+◌, Bool, false, List, [], ◌∷◌, ◌++◌, length, refl, sym, ap, ◌∙◌, subst}
use Rattle.std.specs.Prelude.{Some, None, map}
use Rattle.rule_laws.specs.ir_base.declared.outcome.Place.{Place}
use Rattle.rule_laws.proofs.ir_laws.facts.Members.{each_left, each_right, each_joined}
use Rattle.pass_early_proof.proofs.early.local_rules.Turned.{Further, NoBlock, Nothing, OneMore, Turns, TurnsAll, TurnsBlock, TurnsBlocks}
use Rattle.pass_early.specs.Renaming.{renamed_phi, renamed_term}
use Rattle.pass_early.specs.declared.renaming.Renaming.{Renaming}
use Rattle.rule_laws.specs.ir_parts.Parts.{Ending, Head, OfInstr, OfPhi, Part, Signature, block_parts, blocks_parts, first_part, function_place, instr_parts, instr_place, parts_of, phi_parts}
use Rattle.ir_model.specs.declared.instr.Instr.{Instr}
use Rattle.ir_model.specs.declared.instr.Phi.{Phi}
use Rattle.ir_model.specs.declared.instr.Terminator.{Terminator}
use Rattle.ir_model.specs.declared.module.Block.{Block}
use Rattle.ir_model.specs.declared.module.Function.{Function}
use Rattle.rule_laws.specs.rule_locals.Instrs.{on_instr}
use Rattle.rule_laws.specs.run_laws.changed.Changed.{Each}
use Rattle.rule_laws.proofs.rules.local_rules.Carried.{Passing, none_of, passing}

-- ---- rules that look at a place for its block alone

-- an instruction breaks the rule nowhere in the block of the place
abbrev pub StaysOut : (Place → Part → Bool) → Place → Instr → Type 0
StaysOut now p j = (q : Place) → q.block ≡ p.block → now q (OfInstr j) ≡ false

pub record Carries (r : Renaming) (fresh : ℕ → Type 0) (f g : Function) (breaks now : Place → Part → Bool) : Type 0 where
  pub signature : (p : Place) → breaks p (Signature f) ≡ false → now p (Signature g) ≡ false
  pub head : (p : Place) (b c : Block) → c.label ≡ b.label → breaks p (Head b) ≡ false → now p (Head c) ≡ false
  pub phi : (p : Place) (x : Phi) → breaks p (OfPhi x) ≡ false → now p (OfPhi (renamed_phi r x)) ≡ false
  pub instr : (p : Place) (i : Instr) (js : List Instr) → Turns r fresh i js → breaks p (OfInstr i) ≡ false → Each (StaysOut now p) js
  pub ending : (p q : Place) (t : Terminator) → breaks p (Ending t) ≡ false → now q (Ending (renamed_term r t)) ≡ false

-- a rule on instructions alone
pub on_instrs : (r : Renaming) (fresh : ℕ → Type 0) (f g : Function) (breaks now : Place → Instr → Bool) → ((p : Place) (i : Instr) (js : List Instr) → Turns r fresh i js → breaks p i ≡ false → Each (StaysOut (on_instr now) p) js) → Carries r fresh f g (on_instr breaks) (on_instr now)
on_instrs r fresh f g breaks now h = record { signature = λ p e. refl; head = λ p b c d e. refl; phi = λ p x e. refl; instr = h; ending = λ p q t e. refl }

module _ (r : Renaming) (fresh : ℕ → Type 0) (f g : Function) (breaks now : Place → Part → Bool) (over : Carries r fresh f g breaks now) (func : ℕ) where
  phis_carried : (block at : ℕ) (ps : List Phi) → Passing breaks (phi_parts func block at ps) → Passing now (phi_parts func block at (map (renamed_phi r) ps))
  phis_carried block at [] h = tt
  phis_carried block at (p ∷ ps) h = (over.phi (instr_place func block at) p h.0, phis_carried block (at + 1) ps h.1)

  joined : (block : ℕ) (p : Place) (js ks : List Instr) → p.block ≡ Some block → Each (StaysOut now p) js → ((at : ℕ) → Passing now (instr_parts func block at ks)) → (at : ℕ) → Passing now (instr_parts func block at (js ++ ks))
  joined block p [] ks e h rest at = rest at
  joined block p (j ∷ js) ks e h rest at = (h.0 (instr_place func block at) (sym e), joined block p js ks e h.1 rest (at + 1))

  instrs_carried : (block at : ℕ) (is js : List Instr) → TurnsAll r fresh is js → Passing breaks (instr_parts func block at is) → (now_at : ℕ) → Passing now (instr_parts func block now_at js)
  instrs_carried block at _ _ Nothing h now_at = tt
  instrs_carried block at _ _ (Further i is js ks t rest) h now_at =
      joined block (instr_place func block at) js ks refl (over.instr (instr_place func block at) i js t h.0) (instrs_carried block (at + 1) is ks rest h.1) now_at

  block_carried : (block : ℕ) (b c : Block) → TurnsBlock r fresh b c → Passing breaks (block_parts func block b) → Passing now (block_parts func block c)
  unfolding block_parts
  block_carried block b c t h =
      let phis_of_b : List (Place × Part) = phi_parts func block 0 b.phis in
      let instrs_of_b : List (Place × Part) = instr_parts func block (length b.phis) b.instrs in
      let last_of_b : List (Place × Part) = (instr_place func block (length b.phis + length b.instrs), Ending b.term) ∷ [] in
      let P : Place × Part → Type 0 = λ x. breaks x.0 x.1 ≡ false in
      let Q : Place × Part → Type 0 = λ x. now x.0 x.1 ≡ false in
      let phis : Passing breaks phis_of_b = each_left P phis_of_b (instrs_of_b ++ last_of_b) h.1 in
      let behind : Passing breaks (instrs_of_b ++ last_of_b) = each_right P phis_of_b (instrs_of_b ++ last_of_b) h.1 in
      let instrs : Passing breaks instrs_of_b = each_left P instrs_of_b last_of_b behind in
      let last : Passing breaks last_of_b = each_right P instrs_of_b last_of_b behind in
      let last_place : Place = instr_place func block (length c.phis + length c.instrs) in (
        over.head (record { item = (function_place func).item; block = Some block; instr = None }) b c t.label h.0,
        each_joined Q (phi_parts func block 0 c.phis) (instr_parts func block (length c.phis) c.instrs ++ (last_place, Ending c.term) ∷ [])
            (subst (λ (ps : List Phi). Passing now (phi_parts func block 0 ps)) (sym t.phis) (phis_carried block 0 b.phis phis))
            (
            each_joined Q (instr_parts func block (length c.phis) c.instrs) ((last_place, Ending c.term) ∷ [])
            (instrs_carried block (length b.phis) b.instrs c.instrs t.instrs instrs (length c.phis))
            (ap (λ (x : Terminator). now last_place (Ending x)) t.term ∙ over.ending (instr_place func block (length b.phis + length b.instrs)) last_place b.term last.0, tt)
            ),
      )

  blocks_carried : (block : ℕ) (bs cs : List Block) → TurnsBlocks r fresh bs cs → Passing breaks (blocks_parts func block bs) → Passing now (blocks_parts func block cs)
  blocks_carried block _ _ NoBlock h = tt
  blocks_carried block _ _ (OneMore b c bs cs t rest) h =
      each_joined (λ x. now x.0 x.1 ≡ false) (block_parts func block c) (blocks_parts func (block + 1) cs)
      (block_carried block b c t (each_left (λ x. breaks x.0 x.1 ≡ false) (block_parts func block b) (blocks_parts func (block + 1) bs) h))
      (blocks_carried (block + 1) bs cs rest (each_right (λ x. breaks x.0 x.1 ≡ false) (block_parts func block b) (blocks_parts func (block + 1) bs) h))

  pub carried : TurnsBlocks r fresh f.blocks g.blocks → first_part breaks (parts_of func f) ≡ None → first_part now (parts_of func g) ≡ None
  carried blocks e =
      let all = passing breaks (parts_of func f) e in
      none_of now (parts_of func g) (over.signature (function_place func) all.0, blocks_carried 0 f.blocks g.blocks blocks all.1)
