-- A rule that no part of a function breaks is broken by no part of the result.
use Rattle.std.proofs.Common.{◌≡◌, ◌⊎◌, inl, inr, ℕ, ◌+◌, Bool, false, List, [], ◌∷◌, ◌++◌, length, refl}
use Rattle.std.specs.Prelude.{Some, None}
use Rattle.ir_laws.specs.ir_base.declared.outcome.Place.{Place}
use Rattle.rule_uses.specs.Uses.{phi_values}
use Rattle.rule_laws.proofs.rules.local_rules.Carried.{Passing, none_of, passing}
use Rattle.ir_laws.proofs.facts.Members.{each_joined, each_left, each_right}
use Rattle.rule_laws.proofs.rules.source_rules.Locals.{made_by}
use Rattle.ir_parts.specs.Parts.{Ending, Head, OfInstr, OfPhi, Part, Signature, block_parts, block_place, blocks_parts, first_part, function_place, instr_parts, instr_place, parts_of, phi_parts}
use Rattle.ir_laws.specs.ir_model.declared.instr.Instr.{Instr}
use Rattle.ir_laws.specs.ir_model.declared.instr.Phi.{Phi}
use Rattle.ir_laws.specs.ir_model.declared.instr.Terminator.{Terminator}
use Rattle.ir_laws.specs.ir_model.declared.module.Block.{Block}
use Rattle.ir_laws.specs.ir_model.declared.module.Function.{Function}
use Rattle.ir_laws.specs.ir_model.declared.module.Module.{Module}
use Rattle.rule_locals.specs.Instrs.{on_instr}
use Rattle.ir_laws.specs.run_laws.changed.Changed.{Each}
use Rattle.rule_laws.proofs.rules.woven_rules.Laid.{AreOnceOrSame, HasLabelsOnce, AreLaid, AreLaidBlocks, IsLaidBlock, IsLike, NoneLaid, OneLaid, PutFits, Remains}
use Rattle.rule_laws.specs.rules.woven_rules.Blocks.{Done, Gone, Put, Remain}
use Rattle.ir_laws.specs.facts.woven_rules.Pairs.{Empty, Pair, Pairwise}
use Rattle.rule_laws.specs.rules.woven_rules.Parts.{PhiStays}
use Rattle.ir_laws.specs.facts.woven_rules.Parts.{TermStays}
use Rattle.rule_laws.specs.rules.woven_rules.Weaving.{Weaving}

-- what is asked of a rule that looks at a place for its block alone
pub record Carries (w : Weaving) (m : Module) (f g : Function) (breaks now : Place → Part → Bool) : Type 0 where
  pub signature : (p : Place) → breaks p (Signature f) ≡ false → now p (Signature g) ≡ false
  pub head : (p : Place) (b c : Block) → c.label ≡ b.label → breaks p (Head b) ≡ false → now p (Head c) ≡ false
  pub phi : (p : Place) (x y : Phi) → PhiStays (λ (from : ℕ). IsLike w f g) x y
      → HasLabelsOnce x ⊎ (y ≡ x) → breaks p (OfPhi x) ≡ false → now p (OfPhi y) ≡ false
  pub put : (block : ℕ) (q : Place) (j : Instr) → q.block ≡ Some block → PutFits w.stage m g block j → now q (OfInstr j) ≡ false
  pub remain : (p q : Place) (i j : Instr) → q.block ≡ p.block → Remains w f g i j → breaks p (OfInstr i) ≡ false → now q (OfInstr j) ≡ false
  pub ending : (p q : Place) (t u : Terminator) → TermStays (IsLike w f g) t u → breaks p (Ending t) ≡ false → now q (Ending u) ≡ false

-- a rule on instructions alone
pub record CarriesInstrs (w : Weaving) (m : Module) (f g : Function) (breaks now : Place → Instr → Bool) : Type 0 where
  pub put_one : (block : ℕ) (q : Place) (j : Instr) → q.block ≡ Some block → PutFits w.stage m g block j → now q j ≡ false
  pub remain_one : (p q : Place) (i j : Instr) → q.block ≡ p.block → Remains w f g i j → breaks p i ≡ false → now q j ≡ false

pub on_instrs : (w : Weaving) (m : Module) (f g : Function) (breaks now : Place → Instr → Bool) → CarriesInstrs w m f g breaks now → Carries w m f g (on_instr breaks) (on_instr now)
on_instrs w m f g breaks now h =
    record {
      signature = λ p e. refl;
      head = λ p b c d e. refl;
      phi = λ p x y s once e. refl;
      put = h.put_one;
      remain = h.remain_one;
      ending = λ p q t u s e. refl;
    }

first_phi : (p q : Phi) (ps qs : List Phi) → AreOnceOrSame (p ∷ ps) (q ∷ qs) → HasLabelsOnce p ⊎ (q ≡ p)
first_phi p q ps qs (inl h) = inl h.0
first_phi p q ps qs (inr e) = inr (cc)

other_phis : (p q : Phi) (ps qs : List Phi) → AreOnceOrSame (p ∷ ps) (q ∷ qs) → AreOnceOrSame ps qs
other_phis p q ps qs (inl h) = inl h.1
other_phis p q ps qs (inr e) = inr (cc)

module _ (w : Weaving) (m : Module) (f g : Function) (breaks now : Place → Part → Bool) (over : Carries w m f g breaks now) (func : ℕ) where
  phis_carried : (block at : ℕ) (ps qs : List Phi) → Pairwise (PhiStays (λ (from : ℕ). IsLike w f g)) ps qs
      → AreOnceOrSame ps qs → Passing breaks (phi_parts func block at ps) → Passing now (phi_parts func block at qs)
  phis_carried block at _ _ Empty once h = tt
  phis_carried block at _ _ (Pair p q ps qs s rest) once h = (
    over.phi (instr_place func block at) p q s (first_phi p q ps qs once) h.0,
    phis_carried block (at + 1) ps qs rest (other_phis p q ps qs once) h.1,
  )

  instrs_carried : (block at : ℕ) (made : List ℕ) (is js : List Instr) → AreLaid w m f g block made is js → Passing breaks (instr_parts func block at is) → (now_at : ℕ) → Passing now (instr_parts func block now_at js)
  instrs_carried block at made _ _ (Done _) h now_at = tt
  instrs_carried block at made _ _ (Put _ j is js p rest) h now_at = (over.put block (instr_place func block now_at) j refl p, instrs_carried block at (made_by j ++ made) is js rest h (now_at + 1))
  instrs_carried block at made _ _ (Gone _ i is js p rest) h now_at = instrs_carried block (at + 1) made is js rest h.1 now_at
  instrs_carried block at made _ _ (Remain _ i j is js s rest) h now_at = (
    over.remain (instr_place func block at) (instr_place func block now_at) i j refl s h.0,
    instrs_carried block (at + 1) (made_by j ++ made) is js rest h.1 (now_at + 1),
  )

  block_carried : (block : ℕ) (b c : Block) → IsLaidBlock w m f g block b c → Passing breaks (block_parts func block b) → Passing now (block_parts func block c)
  unfolding block_parts
  block_carried block b c s h =
      let phis_of_b : List (Place × Part) = phi_parts func block 0 b.phis in
      let instrs_of_b : List (Place × Part) = instr_parts func block (length b.phis) b.instrs in
      let last_of_b : List (Place × Part) = (instr_place func block (length b.phis + length b.instrs), Ending b.term) ∷ [] in
      let P : Place × Part → Type 0 = λ x. breaks x.0 x.1 ≡ false in
      let Q : Place × Part → Type 0 = λ x. now x.0 x.1 ≡ false in
      let phis : Passing breaks phis_of_b = each_left P phis_of_b (instrs_of_b ++ last_of_b) h.1 in
      let behind : Passing breaks (instrs_of_b ++ last_of_b) = each_right P phis_of_b (instrs_of_b ++ last_of_b) h.1 in
      let instrs : Passing breaks instrs_of_b = each_left P instrs_of_b last_of_b behind in
      let last : Passing breaks last_of_b = each_right P instrs_of_b last_of_b behind in
      let last_place : Place = instr_place func block (length c.phis + length c.instrs) in (
        over.head (block_place func block) b c s.label h.0,
        each_joined Q (phi_parts func block 0 c.phis) (instr_parts func block (length c.phis) c.instrs ++ (last_place, Ending c.term) ∷ [])
            (phis_carried block 0 b.phis c.phis s.phis s.once phis)
            (
            each_joined Q (instr_parts func block (length c.phis) c.instrs) ((last_place, Ending c.term) ∷ [])
            (instrs_carried block (length b.phis) (phi_values c) b.instrs c.instrs s.instrs instrs (length c.phis))
            (over.ending (instr_place func block (length b.phis + length b.instrs)) last_place b.term c.term s.term last.0, tt)
            ),
      )

  blocks_carried : (block : ℕ) (bs cs : List Block) → AreLaidBlocks w m f g block bs cs → Passing breaks (blocks_parts func block bs) → Passing now (blocks_parts func block cs)
  blocks_carried block _ _ (NoneLaid _) h = tt
  blocks_carried block _ _ (OneLaid _ b c bs cs s rest) h =
      each_joined (λ x. now x.0 x.1 ≡ false) (block_parts func block c) (blocks_parts func (block + 1) cs)
      (block_carried block b c s (each_left (λ x. breaks x.0 x.1 ≡ false) (block_parts func block b) (blocks_parts func (block + 1) bs) h))
      (blocks_carried (block + 1) bs cs rest (each_right (λ x. breaks x.0 x.1 ≡ false) (block_parts func block b) (blocks_parts func (block + 1) bs) h))

  pub carried : AreLaidBlocks w m f g 0 f.blocks g.blocks → first_part breaks (parts_of func f) ≡ None → first_part now (parts_of func g) ≡ None
  carried blocks e =
      let all = passing breaks (parts_of func f) e in
      none_of now (parts_of func g) (over.signature (function_place func) all.0, blocks_carried 0 f.blocks g.blocks blocks all.1)
