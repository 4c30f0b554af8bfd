-- The result defines each value and each label that it names.
use Rattle.std.proofs.Common.{◌≡◌, ⊎_elim, inl, inr, ℕ, zero, suc, ◌+◌, Bool, true, false, List, [], ◌∷◌, ◌++◌, pos, length, refl, sym, ap, ◌∙◌, subst}
use Rattle.std.specs.List.{list_all, list_any}
use Rattle.std.specs.Prelude.{None, Some, is_some, not, slice_get, ◌==◌, ◌&&◌, ◌||◌}
use Rattle.ir_laws.specs.ir_base.declared.outcome.Place.{Place}
use Rattle.rule_uses.specs.Uses.{block_values, made_by_instrs, phi_values, values_in}
use Rattle.rule_laws.proofs.rules.local_rules.Carried.{Passing, none_of, passing}
use Rattle.ir_laws.proofs.facts.Members.{each_joined, each_left, each_right}
use Rattle.rule_laws.proofs.rules.local_rules.Defined.{label_defined, value_defined}
use Rattle.ir_laws.proofs.facts.Truth.{and_both, and_first, and_second, holds}
use Rattle.ir_laws.specs.flow_solver.Paths.{IsListed}
use Rattle.ir_parts.specs.Contents.{arg_operands, instr_operands, part_labels, part_operands, part_types}
use Rattle.ir_parts.specs.Parts.{Ending, OfInstr, OfPhi, Part as FunctionPart, block_parts, blocks_parts, instr_parts, instr_place, parts_of, phi_parts}
use Rattle.pass_intrinsics.specs.Lowered.{lowered, names_taken, operand_at}
use Rattle.pass_intrinsics.specs.declared.shape.Part.{Part}
use Rattle.pass_intrinsics.specs.declared.shape.Shape.{Shape}
use Rattle.ir_laws.specs.ir_model.declared.instr.Instr.{Instr}
use Rattle.ir_laws.specs.ir_model.declared.instr.Phi.{Phi}
use Rattle.ir_laws.specs.ir_model.declared.instr.Terminator.{Terminator}
use Rattle.ir_laws.specs.ir_model.declared.module.Block.{Block}
use Rattle.ir_laws.specs.ir_model.declared.module.Function.{Function}
use Rattle.ir_laws.specs.ir_model.declared.module.Module.{Module}
use Rattle.ir_laws.specs.ir_model.declared.module.Param.{Param}
use Rattle.ir_laws.specs.ir_model.declared.operand.Arg.{Arg}
use Rattle.ir_laws.specs.ir_model.declared.operand.Operand.{Operand}
use Rattle.ir_laws.specs.ir_locals.Tables.{first_in}
use Rattle.rule_names.specs.Known.{first_unknown, is_label, is_value, knows_called, knows_operand, knows_type, names_unknown}
use Rattle.rule_laws.proofs.frames.turned.Local.{either_some, kinds_of_blocks, some_behind, some_or}
use Rattle.rule_laws.proofs.frames.turned.Turned.{AreTurned, Becomes, Destroyed, IsTurned, NoneTurned, OneTurned, Promised, Resumed, Same, Tested, becomes, names_behind, turned}
use Rattle.rule_laws.proofs.rules.turned.Turned.{IsOuter}
use Rattle.rule_laws.proofs.frames.turned.Uses.{made_joined}
use Rattle.rule_laws.specs.rules.replaced.Instructions.{KnowsItsLocals, is_there, names_lost}
use Rattle.ir_laws.specs.run_laws.changed.Changed.{Each}
use Rattle.rule_values.specs.Kinds.{block_kind, param_kind}
use Rattle.rule_laws.proofs.rules.woven_rules.ValueKinds.{made_grows, made_some}

labels_same : (s : Shape) (v n : ℕ) (bs cs : List Block) → AreTurned s n bs cs → list_any (λ (b : Block). b.label == v) cs ≡ list_any (λ (b : Block). b.label == v) bs
labels_same s v _ _ _ (NoneTurned n) = refl
labels_same s v _ _ _ (OneTurned n b c bs cs t rest) = λ k. (t.label k == v) || labels_same s v (names_behind n b.instrs) bs cs rest k

-- ---- operands of what an instruction becomes

module _ (values : ℕ → Bool) where
  abbrev There : Operand → Type 0
  There x = is_there values x ≡ true

  argument_there : (args : List Arg) (at : ℕ) → list_all (is_there values) (arg_operands args) ≡ true → There (operand_at args at)
  argument_there [] at e = refl
  argument_there (a ∷ args) zero e = and_first (is_there values a.value) (list_all (is_there values) (arg_operands args)) e
  argument_there (a ∷ args) (suc at) e = argument_there args at (and_second (is_there values a.value) (list_all (is_there values) (arg_operands args)) e)

  one_there : (x : Operand) → There x → list_all (is_there values) (x ∷ []) ≡ true
  one_there x e = and_both (is_there values x) true e refl

  two_there : (x y : Operand) → There x → There y → list_all (is_there values) (x ∷ y ∷ []) ≡ true
  two_there x y e d = and_both (is_there values x) (list_all (is_there values) (y ∷ [])) e (one_there y d)

  becomes_there : (n : ℕ) (made : List ℕ) (i : Instr) (js : List Instr) (taken : ℕ) → Becomes n i js taken → ((v : ℕ) → IsListed v (made_by_instrs made js) → values v ≡ true) → list_all (is_there values) (instr_operands i) ≡ true
      → Each (λ (j : Instr). list_all (is_there values) (instr_operands j) ≡ true) js
  becomes_there n made _ _ _ (Same i) own e = (e, tt)
  becomes_there n made _ _ _ (Resumed must_tail ty args) own e =
      let p : Operand = operand_at args 0 in
      let here : There p = argument_there args 0 e in
      (one_there p here, (two_there (Operand.Local n) p (own n (inl refl)) here, tt))
  becomes_there n made _ _ _ (Destroyed must_tail ty args) own e =
      let p : Operand = operand_at args 0 in
      let here : There p = argument_there args 0 e in
      let first : There (Operand.Local n) = own n (inr (inl refl)) in
      let second : There (Operand.Local (n + 1)) = own (n + 1) (inl refl) in
      (two_there p (Operand.Number (pos 8)) here refl, (one_there (Operand.Local n) first, (two_there (Operand.Local (n + 1)) p second here, tt)))
  becomes_there n made _ _ _ (Tested None must_tail ty args) own e = tt
  becomes_there n made _ _ _ (Tested (Some r) must_tail ty args) own e =
      (one_there (operand_at args 0) (argument_there args 0 e), (two_there (Operand.Local n) Operand.Null (own n (inr (inl refl))) refl, tt))
  becomes_there n made _ _ _ (Promised None must_tail ty args) own e = tt
  becomes_there n made _ _ _ (Promised (Some r) must_tail ty args) own e = (and_both (is_there values (operand_at args 0)) true (argument_there args 0 e) refl, tt)

-- the labels that a part names are labels of the function
pub term_labels : (m : Module) (k : ℕ) (f : Function) (p : Place) (x : FunctionPart) → names_unknown m (is_value k f) (is_label k f) p x ≡ false → list_all (is_label k f) (part_labels x) ≡ true
term_labels m k f p x e =
    let rest : Bool = list_all (is_label k f) (part_labels x) && knows_called m x in
    and_first (list_all (is_label k f) (part_labels x)) (knows_called m x)
    (and_second (list_all (knows_operand m (is_value k f)) (part_operands x)) rest
    (and_second (list_all (knows_type m) (part_types x)) (list_all (knows_operand m (is_value k f)) (part_operands x) && rest)
    (holds (list_all (knows_type m) (part_types x) && (list_all (knows_operand m (is_value k f)) (part_operands x) && rest)) e)))

module _ (s : Shape) (m : Module) (k l : ℕ) (f g : Function) (first : ℕ) (blocks : AreTurned s first f.blocks g.blocks) (params : g.params ≡ f.params) where
  value_stays : (v : ℕ) → is_value k f v ≡ true → is_value l g v ≡ true
  value_stays v e =
      value_defined v l g
      ∙ ⊎_elim
      (λ p. some_or (first_in param_kind g.params v) (first_in block_kind g.blocks v) (subst (λ (ps : List Param). is_some (first_in param_kind ps v) ≡ true) (sym params) p))
      (λ b. some_behind (first_in param_kind g.params v) (first_in block_kind g.blocks v) (kinds_of_blocks s first f.blocks g.blocks v blocks b))
      (either_some (first_in param_kind f.params v) (first_in block_kind f.blocks v) (sym (value_defined v k f) ∙ e))

  label_stays : (v : ℕ) → is_label l g v ≡ is_label k f v
  label_stays v = label_defined v l g ∙ labels_same s v first f.blocks g.blocks blocks ∙ sym (label_defined v k f)

  abbrev Unknown : Place → FunctionPart → Bool
  Unknown = names_unknown m (is_value k f) (is_label k f)

  abbrev Lost : Place → FunctionPart → Bool
  Lost = names_lost (is_value l g) (is_label l g)

  operand_stays : (x : Operand) → knows_operand m (is_value k f) x ≡ true → is_there (is_value l g) x ≡ true
  operand_stays (Operand.Local v) e = value_stays v e
  operand_stays _ e = refl

  operands_stay : (xs : List Operand) → list_all (knows_operand m (is_value k f)) xs ≡ true → list_all (is_there (is_value l g)) xs ≡ true
  operands_stay [] e = refl
  operands_stay (x ∷ xs) e =
      let rest : Bool = list_all (knows_operand m (is_value k f)) xs in
      and_both (is_there (is_value l g) x) (list_all (is_there (is_value l g)) xs) (operand_stays x (and_first (knows_operand m (is_value k f) x) rest e)) (operands_stay xs (and_second (knows_operand m (is_value k f) x) rest e))

  labels_stay : (ls : List ℕ) → list_all (is_label k f) ls ≡ true → list_all (is_label l g) ls ≡ true
  labels_stay ls e = ap (λ (test : ℕ → Bool). list_all test ls) (λ i v. label_stays v i) ∙ e

  -- what a part's names tell
  operands_of : (p : Place) (x : FunctionPart) → Unknown p x ≡ false → list_all (knows_operand m (is_value k f)) (part_operands x) ≡ true
  operands_of p x e =
      let rest : Bool = list_all (is_label k f) (part_labels x) && knows_called m x in
      and_first (list_all (knows_operand m (is_value k f)) (part_operands x)) rest
      (and_second (list_all (knows_type m) (part_types x)) (list_all (knows_operand m (is_value k f)) (part_operands x) && rest)
      (holds (list_all (knows_type m) (part_types x) && (list_all (knows_operand m (is_value k f)) (part_operands x) && rest)) e))

  part_stays : (p q : Place) (x : FunctionPart) → Unknown p x ≡ false → Lost q x ≡ false
  part_stays p q x e =
      ap not (and_both (list_all (is_there (is_value l g)) (part_operands x)) (list_all (is_label l g) (part_labels x)) (operands_stay (part_operands x) (operands_of p x e)) (labels_stay (part_labels x) (term_labels m k f p x e)))

  -- ---- blocks

  phis_pass : (block at : ℕ) (ps : List Phi) → Passing Unknown (phi_parts k block at ps) → Passing Lost (phi_parts l block at ps)
  phis_pass block at [] h = tt
  phis_pass block at (p ∷ ps) h = (part_stays (instr_place k block at) (instr_place l block at) (OfPhi p) h.0, phis_pass block (at + 1) ps h.1)

  placed : (block : ℕ) (js ks : List Instr) → Each (λ (j : Instr). list_all (is_there (is_value l g)) (instr_operands j) ≡ true) js → ((at : ℕ) → Passing Lost (instr_parts l block at ks)) → (at : ℕ) → Passing Lost (instr_parts l block at (js ++ ks))
  placed block [] ks h rest at = rest at
  placed block (j ∷ js) ks h rest at = (ap not (and_both (list_all (is_there (is_value l g)) (instr_operands j)) true h.0 refl), placed block js ks h.1 rest (at + 1))

  instrs_pass : (block at n : ℕ) (made : List ℕ) (is : List Instr) → Each IsOuter is → ((v : ℕ) → IsListed v (made_by_instrs made (turned s n is)) → is_value l g v ≡ true) → Passing Unknown (instr_parts k block at is) → (now_at : ℕ) → Passing Lost (instr_parts l block now_at (turned s n is))
  instrs_pass block at n made [] o own h now_at = tt
  instrs_pass block at n made (i ∷ is) o own h now_at =
      let js : List Instr = lowered s Part.Ramp n i in
      let ks : List Instr = turned s (n + names_taken i) is in
      let all : (v : ℕ) → IsListed v (made_by_instrs (made_by_instrs made js) ks) → is_value l g v ≡ true = λ v x. own v (subst (IsListed v) (sym (made_joined made js ks)) x) in
      placed block js ks
      (becomes_there (is_value l g) n made i js (names_taken i) (becomes s n i o.0) (λ v x. all v (made_grows ks (made_by_instrs made js) v x))
      (operands_stay (instr_operands i) (operands_of (instr_place k block at) (OfInstr i) h.0)))
      (instrs_pass block (at + 1) (n + names_taken i) (made_by_instrs made js) is o.1 all h.1) now_at

  block_passes : (n block : ℕ) (b c : Block) → IsTurned s n b c → ((v : ℕ) → IsListed v (block_values c) → is_value l g v ≡ true) → Passing Unknown (block_parts k block b) → Passing Lost (block_parts l block c)
  unfolding block_parts
  block_passes n block b c t own h =
      let P : Place × FunctionPart → Type 0 = λ x. Unknown x.0 x.1 ≡ false in
      let Q : Place × FunctionPart → Type 0 = λ x. Lost x.0 x.1 ≡ false in
      let phis : List (Place × FunctionPart) = phi_parts k block 0 b.phis in
      let instrs : List (Place × FunctionPart) = instr_parts k block (length b.phis) b.instrs in
      let old : Place = instr_place k block (length b.phis + length b.instrs) in
      let new : Place = instr_place l block (length c.phis + length c.instrs) in
      let behind : Passing Unknown (instrs ++ (old, Ending b.term) ∷ []) = each_right P phis (instrs ++ (old, Ending b.term) ∷ []) h.1 in
      let there : (v : ℕ) → IsListed v (made_by_instrs (phi_values c) (turned s n b.instrs)) → is_value l g v ≡ true = λ v x. own v (subst (λ (js : List Instr). IsListed v (made_by_instrs (phi_values c) js)) (sym t.instrs) x) in (
        refl,
        each_joined Q (phi_parts l block 0 c.phis) (instr_parts l block (length c.phis) c.instrs ++ (new, Ending c.term) ∷ [])
            (subst (λ (ps : List Phi). Passing Lost (phi_parts l block 0 ps)) (sym t.phis) (phis_pass block 0 b.phis (each_left P phis (instrs ++ (old, Ending b.term) ∷ []) h.1)))
            (each_joined Q (instr_parts l block (length c.phis) c.instrs) ((new, Ending c.term) ∷ [])
            (subst (λ (js : List Instr). Passing Lost (instr_parts l block (length c.phis) js)) (sym t.instrs)
            (instrs_pass block (length b.phis) n (phi_values c) b.instrs t.outer there (each_left P instrs ((old, Ending b.term) ∷ []) behind) (length c.phis)))
            (ap (λ (u : Terminator). Lost new (Ending u)) t.term ∙ part_stays old new (Ending b.term) (each_right P instrs ((old, Ending b.term) ∷ []) behind).0, tt)),
      )

  blocks_pass : (n block : ℕ) (bs cs : List Block) → AreTurned s n bs cs → ((at v : ℕ) → IsListed v (values_in (slice_get cs at)) → is_value l g v ≡ true) → Passing Unknown (blocks_parts k block bs) → Passing Lost (blocks_parts l block cs)
  blocks_pass _ block _ _ (NoneTurned n) own h = tt
  blocks_pass _ block _ _ (OneTurned n b c bs cs t rest) own h =
      each_joined (λ x. Lost x.0 x.1 ≡ false) (block_parts l block c) (blocks_parts l (block + 1) cs)
      (block_passes n block b c t (own 0) (each_left (λ x. Unknown x.0 x.1 ≡ false) (block_parts k block b) (blocks_parts k (block + 1) bs) h))
      (blocks_pass (names_behind n b.instrs) (block + 1) bs cs rest (λ at. own (suc at)) (each_right (λ x. Unknown x.0 x.1 ≡ false) (block_parts k block b) (blocks_parts k (block + 1) bs) h))

  pub locals_known : first_unknown m k f ≡ None → KnowsItsLocals l g
  locals_known e =
      none_of Lost (parts_of l g) (
        refl,
        blocks_pass first 0 f.blocks g.blocks blocks (λ at v x. value_defined v l g ∙ made_some v g at x) (passing Unknown (parts_of k f) e).1,
      )
