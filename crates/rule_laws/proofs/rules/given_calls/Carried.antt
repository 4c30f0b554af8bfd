-- A rule that looks at parts one by one, where calls give frames.
use Rattle.std.proofs.Common.{◌≡◌, ℕ, ◌+◌, Bool, true, false, List, [], ◌∷◌, ◌++◌, length, sym, subst, None, Option, Some}
use Rattle.ir_laws.proofs.facts.Members.{each_joined, each_left, each_right}
use Rattle.ir_laws.specs.ir_base.declared.name.Name.{Name}
use Rattle.ir_laws.specs.ir_base.declared.outcome.Place.{Place}
use Rattle.ir_laws.specs.ir_model.Ty.{Ty}
use Rattle.ir_laws.specs.ir_model.declared.instr.Instr.{Instr}
use Rattle.ir_laws.specs.ir_model.declared.instr.Phi.{Phi}
use Rattle.ir_laws.specs.ir_model.declared.instr.Terminator.{Terminator}
use Rattle.ir_laws.specs.ir_model.declared.module.Block.{Block}
use Rattle.ir_laws.specs.ir_model.declared.module.Function.{Function}
use Rattle.ir_laws.specs.ir_model.declared.module.Module.{Module}
use Rattle.ir_laws.specs.ir_model.declared.operand.Arg.{Arg}
use Rattle.ir_laws.specs.ir_model.declared.operand.Callee.{Callee}
use Rattle.ir_parts.specs.Parts.{Ending, Head, OfInstr, OfPhi, Part, Signature, block_parts, block_place, blocks_parts, first_part, function_place, instr_parts, instr_place, parts_of, phi_parts}
use Rattle.rule_laws.proofs.rules.given_calls.Tables.{count_same}
use Rattle.rule_laws.proofs.rules.local_rules.Carried.{Passing, none_of, passing}
use Rattle.rule_laws.specs.rules.given_calls.Given.{AreGiven, AreGivenBlocks, Gives, IsFrameThere, MayBeCalled, NoBlock, NoneLeft, OneBlock, Same, frame_arg, given_by, with_blocks, with_instrs}
use Rattle.rule_names.specs.Known.{is_value}
use Rattle.rule_uses.specs.Uses.{phi_values}
use Rattle.rule_values.specs.Kinds.{value_kind}
use Rattle.rule_values.specs.declared.kinds.Kind.{Kind}

-- what is asked of a rule: each part that stays passes it, and so do calls that give frames
pub record Carries (m : Module) (func : ℕ) (f : Function) (cs : List Block) (breaks now : Place → Part → Bool) : Type 0
  where
    pub signature : (p : Place) → breaks p (Signature f) ≡ false → now p (Signature (with_blocks cs f)) ≡ false
    pub head : (p : Place) (b : Block) (js : List Instr) → breaks p (Head b) ≡ false
        → now p (Head (with_instrs js b)) ≡ false
    pub phi : (p : Place) (x : Phi) → breaks p (OfPhi x) ≡ false → now p (OfPhi x) ≡ false
    pub instr : (p : Place) (i : Instr) → breaks p (OfInstr i) ≡ false → now p (OfInstr i) ≡ false
    pub call : (p : Place) (r : Option ℕ) (ty : Option Ty) (x y : Name) (args : List Arg) (n : ℕ)
        → MayBeCalled m ty y (args ++ frame_arg n ∷ []) → is_value func f n ≡ true → value_kind f n ≡ Some Kind.Ptr
        → breaks p (OfInstr (Instr.Call r false ty (Callee.Named x) args)) ≡ false
        → now p (OfInstr (given_by r ty y args n)) ≡ false
    pub ending : (p : Place) (t : Terminator) → breaks p (Ending t) ≡ false → now p (Ending t) ≡ false

module _ (m : Module) (func : ℕ) (f : Function) (cs : List Block) (breaks now : Place → Part → Bool)
    (over : Carries m func f cs breaks now) where
  phis_carried : (block at : ℕ) (ps : List Phi) → Passing breaks (phi_parts func block at ps)
      → Passing now (phi_parts func block at ps)
  phis_carried block at [] h = tt
  phis_carried block at (p ∷ ps) h = (over.phi (instr_place func block at) p h.0, phis_carried block (at + 1) ps h.1)

  instrs_carried : (block at : ℕ) (before : List ℕ) (is js : List Instr) → AreGiven m func f block before is js
      → Passing breaks (instr_parts func block at is) → Passing now (instr_parts func block at js)
  instrs_carried block at _ _ _ (NoneLeft before) h = tt
  instrs_carried block at _ _ _ (Same before i is js rest) h =
      (over.instr (instr_place func block at) i h.0, instrs_carried block (at + 1) _ is js rest h.1)
  instrs_carried block at _ _ _ (Gives before r ty x y args n is js may there rest) h = (
    over.call (instr_place func block at) r ty x y args n may there.is_value there.kind h.0,
    instrs_carried block (at + 1) _ is js rest h.1,
  )

  block_carried : (block : ℕ) (b : Block) (js : List Instr) → AreGiven m func f block (phi_values b) b.instrs js
      → Passing breaks (block_parts func block b) → Passing now (block_parts func block (with_instrs js b))
  unfolding block_parts
  block_carried block b js s h =
      let phis : List (Place × Part) = phi_parts func block 0 b.phis in
      let old : List (Place × Part) = instr_parts func block (length b.phis) b.instrs in
      let new : List (Place × Part) = instr_parts func block (length b.phis) js in
      let last : List (Place × Part) = (instr_place func block (length b.phis + length b.instrs), Ending b.term) ∷ [] in
      let place : Place = instr_place func block (length b.phis + length js) in
      let P : Place × Part → Type 0 = λ x. breaks x.0 x.1 ≡ false in
      let Q : Place × Part → Type 0 = λ x. now x.0 x.1 ≡ false in
      let behind : Passing breaks (old ++ last) = each_right P phis (old ++ last) h.1 in
      let ended : now (instr_place func block (length b.phis + length b.instrs)) (Ending b.term) ≡ false =
      over.ending (instr_place func block (length b.phis + length b.instrs)) b.term (each_right P old last behind).0 in
      let same : length b.instrs ≡ length js = sym (count_same m func f block (phi_values b) b.instrs js s) in
      let ending : now place (Ending b.term) ≡ false =
      subst (λ (n : ℕ). now (instr_place func block (length b.phis + n)) (Ending b.term) ≡ false) same ended in (
        over.head (block_place func block) b js h.0,
        each_joined Q phis (new ++ (place, Ending b.term) ∷ [])
            (phis_carried block 0 b.phis (each_left P phis (old ++ last) h.1))
            (each_joined Q new ((place, Ending b.term) ∷ [])
            (instrs_carried block (length b.phis) (phi_values b) b.instrs js s (each_left P old last behind)) (ending, tt)),
      )

  blocks_carried : (at : ℕ) (bs ds : List Block) → AreGivenBlocks m func f at bs ds
      → Passing breaks (blocks_parts func at bs) → Passing now (blocks_parts func at ds)
  blocks_carried _ _ _ (NoBlock at) h = tt
  blocks_carried _ _ _ (OneBlock at b js bs ds s rest) h =
      each_joined (λ x. now x.0 x.1 ≡ false) (block_parts func at (with_instrs js b)) (blocks_parts func (at + 1) ds)
      (block_carried at b js s
      (each_left (λ x. breaks x.0 x.1 ≡ false) (block_parts func at b) (blocks_parts func (at + 1) bs) h))
      (blocks_carried (at + 1) bs ds rest
      (each_right (λ x. breaks x.0 x.1 ≡ false) (block_parts func at b) (blocks_parts func (at + 1) bs) h))

  pub carried : AreGivenBlocks m func f 0 f.blocks cs → first_part breaks (parts_of func f) ≡ None
      → first_part now (parts_of func (with_blocks cs f)) ≡ None
  carried given e =
      let all = passing breaks (parts_of func f) e in
      none_of now (parts_of func (with_blocks cs f))
      (over.signature (function_place func) all.0, blocks_carried 0 f.blocks cs given all.1)
