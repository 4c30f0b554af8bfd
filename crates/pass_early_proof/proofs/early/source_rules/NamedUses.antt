-- Where begin gets a name, no use gets undefined (rule F2).
use Rattle.std.proofs.Common.{◌≡◌, ⊎_elim, ℕ, zero, suc, ◌+◌, true, List, [], ◌∷◌, ◌++◌, length, refl, sym, ap, ◌∙◌, subst}
use Rattle.std.specs.Prelude.{Some, None, Option, map, option_map, option_to_list, slice_get}
use Rattle.rule_laws.specs.flow_blocks.Edges.{block_edges, edges_of_blocks}
use Rattle.rule_laws.specs.ir_base.declared.outcome.Place.{Place}
use Rattle.rule_laws.specs.rule_uses.Undefined.{Entry, IsFirstUndefined, IsUndefined, Later, Next, Nowhere, ReachesWithout}
use Rattle.rule_laws.specs.rule_uses.Uses.{Use, block_uses, block_values, blocks_uses, incoming_use, incoming_uses, instr_uses, local_of, locals_in, made_by_instrs, phi_uses, phi_values, use_of, uses_at, uses_of, values_at, values_in}
use Rattle.rule_laws.proofs.rules.renamed.Uses.{none_undefined}
use Rattle.pass_early.specs.BeginName.{begin_named, named_block, named_instr}
use Rattle.rule_laws.proofs.ir_laws.paths.source_rules.Locals.{listed_either, listed_left, listed_right}
use Rattle.pass_early_proof.proofs.early.source_rules.Naming.{block_there, position_same}
use Rattle.rule_laws.specs.flow_solver.Paths.{IsListed}
use Rattle.rule_laws.specs.ir_parts.Contents.{ending_operands, instr_operands, result_of as part_result}
use Rattle.rule_laws.specs.ir_parts.Parts.{instr_place}
use Rattle.ir_model.specs.Calls.{first_result, first_result_by, first_result_in, result_of_call}
use Rattle.ir_model.specs.Names.{position_of}
use Rattle.ir_model.specs.declared.instr.Incoming.{Incoming}
use Rattle.ir_model.specs.declared.instr.Instr.{Instr}
use Rattle.ir_model.specs.declared.instr.Phi.{Phi}
use Rattle.ir_model.specs.declared.module.Block.{Block}
use Rattle.ir_model.specs.declared.module.Function.{Function}
use Rattle.ir_model.specs.declared.operand.Callee.{Callee}
use Rattle.ir_model.specs.declared.operand.Intrinsic.{Intrinsic}
use Rattle.rule_laws.specs.ir_paths.Paths.{targets}
use Rattle.rule_laws.specs.ir_paths.Windows.{is_call_of}
use Rattle.rule_laws.specs.run_laws.changed.Changed.{Each, result_of}
use Rattle.rule_laws.proofs.ir_laws.facts.Options.{left_none as none_first, right_none as none_second}

-- ---- begins without names

-- the instruction is no begin, or has no result
abbrev pub Unnamed : Instr → Type 0
Unnamed i = is_call_of Intrinsic.CoroBegin i ≡ true → result_of i ≡ None

unnamed_one : (i : Instr) → result_of_call Intrinsic.CoroBegin i ≡ None → Unnamed i
unnamed_one (Instr.Call result must_tail ty (Callee.Intrinsic Intrinsic.CoroBegin) args) e is = e
unnamed_one _ e is = absurd (cc)

unnamed_in : (is : List Instr) → first_result_in Intrinsic.CoroBegin is ≡ None → Each Unnamed is
unnamed_in [] e = tt
unnamed_in (i ∷ is) e = (unnamed_one i (none_first (result_of_call Intrinsic.CoroBegin i) (first_result_in Intrinsic.CoroBegin is) e), unnamed_in is (none_second (result_of_call Intrinsic.CoroBegin i) (first_result_in Intrinsic.CoroBegin is) e))

pub unnamed_by : (bs : List Block) → first_result_by Intrinsic.CoroBegin bs ≡ None → Each (λ b. Each Unnamed b.instrs) bs
unnamed_by [] e = tt
unnamed_by (b ∷ bs) e = (unnamed_in b.instrs (none_first (first_result_in Intrinsic.CoroBegin b.instrs) (first_result_by Intrinsic.CoroBegin bs) e), unnamed_by bs (none_second (first_result_in Intrinsic.CoroBegin b.instrs) (first_result_by Intrinsic.CoroBegin bs) e))

-- ---- what blocks make

abbrev IsWithin : List ℕ → List ℕ → Type 0
IsWithin xs ys = (v : ℕ) → IsListed v xs → IsListed v ys

module _ (n : ℕ) where
  pub part_operands_same : (i : Instr) → instr_operands (named_instr n i) ≡ instr_operands i
  part_operands_same (Instr.Call result must_tail ty (Callee.Intrinsic Intrinsic.CoroBegin) args) = refl
  part_operands_same _ = refl

  result_within : (i : Instr) → Unnamed i → IsWithin (option_to_list (part_result i)) (option_to_list (part_result (named_instr n i)))
  result_within (Instr.Call result must_tail ty (Callee.Intrinsic Intrinsic.CoroBegin) args) e v h = absurd (subst (λ (o : Option ℕ). IsListed v (option_to_list o)) (e refl) h)
  result_within _ e v h = h

  more_within : (i : Instr) (a b : List ℕ) → Unnamed i → IsWithin a b → IsWithin (option_to_list (part_result i) ++ a) (option_to_list (part_result (named_instr n i)) ++ b)
  more_within i a b e h v l = ⊎_elim
      (λ new. listed_left v (option_to_list (part_result (named_instr n i))) b (result_within i e v new))
      (λ old. listed_right v (option_to_list (part_result (named_instr n i))) b (h v old))
      (listed_either v (option_to_list (part_result i)) a l)

  made_within : (is : List Instr) (a b : List ℕ) → Each Unnamed is → IsWithin a b → IsWithin (made_by_instrs a is) (made_by_instrs b (map (named_instr n) is))
  made_within [] a b e h = h
  made_within (i ∷ is) a b e h = made_within is (option_to_list (part_result i) ++ a) (option_to_list (part_result (named_instr n i)) ++ b) e.1 (more_within i a b e.0 h)

-- ---- uses

-- the same use, before which the block has made what it had made, or more
record IsLike (u w : Use) : Type 0 where
  block : w.block ≡ u.block
  value : w.value ≡ u.value
  before : IsWithin u.before w.before

abbrev AreLike : List Use → List Use → Type 0
AreLike [] [] = Unit {0}
AreLike [] (w ∷ ws) = ⊥
AreLike (u ∷ us) [] = ⊥
AreLike (u ∷ us) (w ∷ ws) = IsLike u w × AreLike us ws

like_append : (a b c d : List Use) → AreLike a b → AreLike c d → AreLike (a ++ c) (b ++ d)
like_append [] [] c d h k = k
like_append [] (w ∷ ws) c d h k = absurd h
like_append (u ∷ us) [] c d h k = absurd h
like_append (u ∷ us) (w ∷ ws) c d h k = (h.0, like_append us ws c d h.1 k)

like_uses : (p q : Place) (block : ℕ) (a b : List ℕ) (vs : List ℕ) → IsWithin a b → AreLike (map (use_of p block a) vs) (map (use_of q block b) vs)
like_uses p q block a b [] h = tt
like_uses p q block a b (v ∷ vs) h = (record { block = refl; value = refl; before = h }, like_uses p q block a b vs h)

module _ (f : Function) (none : first_result Intrinsic.CoroBegin f ≡ None) where
  abbrev n : ℕ
  n = length f.names

  abbrev g : Function
  g = begin_named f

  unnamed : Each (λ b. Each Unnamed b.instrs) f.blocks
  unnamed = unnamed_by f.blocks none

  each_at : (bs : List Block) (k : ℕ) (b : Block) → Each (λ c. Each Unnamed c.instrs) bs → slice_get bs k ≡ Some b → Each Unnamed b.instrs
  each_at [] k b h e = absurd (cc)
  each_at (c ∷ bs) zero b h e = let same : c ≡ b = cc in subst (λ (x : Block). Each Unnamed x.instrs) same h.0
  each_at (c ∷ bs) (suc k) b h e = each_at bs k b h.1 e

  values_within : (k : ℕ) → IsWithin (values_at f k) (values_at g k)
  values_within k v = on (slice_get f.blocks k) refl
    where
      on : (o : Option Block) → slice_get f.blocks k ≡ o → IsListed v (values_in o) → IsListed v (values_at g k)
      on None e h = absurd h
      on (Some b) e h =
          subst (λ (o : Option Block). IsListed v (values_in o)) (sym (block_there f k ∙ ap (option_map (named_block n)) e))
          (made_within n b.instrs (phi_values b) (phi_values b) (each_at f.blocks k b unnamed e) (λ w l. l) v h)

  like_incoming : (p : Place) (is : List Incoming) → AreLike (incoming_uses f p is) (incoming_uses g p is)
  like_incoming p [] = tt
  like_incoming p (i ∷ is) = like_append (map (incoming_use f p i) (option_to_list (local_of i.value))) (map (incoming_use g p i) (option_to_list (local_of i.value))) (incoming_uses f p is) (incoming_uses g p is) (of_values (option_to_list (local_of i.value))) (like_incoming p is)
    where
      of_values : (vs : List ℕ) → AreLike (map (incoming_use f p i) vs) (map (incoming_use g p i) vs)
      of_values [] = tt
      of_values (v ∷ vs) = (
        record {
          block = position_same f i.from;
          value = refl;
          before = λ w l. subst (λ (m : ℕ). IsListed w (values_at g m)) (sym (position_same f i.from)) (values_within (position_of f i.from) w l);
        },
        of_values vs,
      )

  like_phis : (func block at : ℕ) (ps : List Phi) → AreLike (phi_uses f func block at ps) (phi_uses g func block at ps)
  like_phis func block at [] = tt
  like_phis func block at (p ∷ ps) = like_append (incoming_uses f (instr_place func block at) p.incoming) (incoming_uses g (instr_place func block at) p.incoming) (phi_uses f func block (at + 1) ps) (phi_uses g func block (at + 1) ps) (like_incoming (instr_place func block at) p.incoming) (like_phis func block (at + 1) ps)

  like_instrs : (func block at : ℕ) (a b : List ℕ) (is : List Instr) → Each Unnamed is → IsWithin a b → AreLike (instr_uses func block at a is) (instr_uses func block at b (map (named_instr n) is))
  like_instrs func block at a b [] e h = tt
  like_instrs func block at a b (i ∷ is) e h =
      like_append (uses_at (instr_place func block at) block a (instr_operands i)) (uses_at (instr_place func block at) block b (instr_operands (named_instr n i)))
      (instr_uses func block (at + 1) (option_to_list (part_result i) ++ a) is) (instr_uses func block (at + 1) (option_to_list (part_result (named_instr n i)) ++ b) (map (named_instr n) is))
      (subst (λ xs. AreLike (uses_at (instr_place func block at) block a (instr_operands i)) (uses_at (instr_place func block at) block b xs)) (sym (part_operands_same n i)) (like_uses (instr_place func block at) (instr_place func block at) block a b (locals_in (instr_operands i)) h))
      (like_instrs func block (at + 1) (option_to_list (part_result i) ++ a) (option_to_list (part_result (named_instr n i)) ++ b) is e.1 (more_within n i a b e.0 h))

  like_block : (func block : ℕ) (b : Block) → Each Unnamed b.instrs → AreLike (block_uses f func block b) (block_uses g func block (named_block n b))
  unfolding block_uses
  like_block func block b e =
      let p : Place = instr_place func block (length b.phis + length b.instrs) in
      let q : Place = instr_place func block (length b.phis + length (map (named_instr n) b.instrs)) in
      like_append (phi_uses f func block 0 b.phis) (phi_uses g func block 0 b.phis)
      (instr_uses func block (length b.phis) (phi_values b) b.instrs ++ uses_at p block (block_values b) (ending_operands b.term))
      (instr_uses func block (length b.phis) (phi_values b) (map (named_instr n) b.instrs) ++ uses_at q block (block_values (named_block n b)) (ending_operands b.term))
      (like_phis func block 0 b.phis)
      (like_append (instr_uses func block (length b.phis) (phi_values b) b.instrs) (instr_uses func block (length b.phis) (phi_values b) (map (named_instr n) b.instrs)) (uses_at p block (block_values b) (ending_operands b.term)) (uses_at q block (block_values (named_block n b)) (ending_operands b.term))
      (like_instrs func block (length b.phis) (phi_values b) (phi_values b) b.instrs e (λ v l. l))
      (like_uses p q block (block_values b) (block_values (named_block n b)) (locals_in (ending_operands b.term)) (made_within n b.instrs (phi_values b) (phi_values b) e (λ v l. l))))

  like_blocks : (func at : ℕ) (bs : List Block) → Each (λ b. Each Unnamed b.instrs) bs → AreLike (blocks_uses f func at bs) (blocks_uses g func at (map (named_block n) bs))
  like_blocks func at [] e = tt
  like_blocks func at (b ∷ bs) e = like_append (block_uses f func at b) (block_uses g func at (named_block n b)) (blocks_uses f func (at + 1) bs) (blocks_uses g func (at + 1) (map (named_block n) bs)) (like_block func at b e.0) (like_blocks func (at + 1) bs e.1)

  -- ---- paths of blocks

  targets_same : (from : ℕ) (ts : List ℕ) → map {B = ℕ × ℕ} (λ to. (from, to)) (map (position_of g) ts) ≡ map (λ to. (from, to)) (map (position_of f) ts)
  targets_same from [] = refl
  targets_same from (t ∷ ts) = λ k. (from, position_same f t k) ∷ targets_same from ts k

  edges_same : (at : ℕ) (bs : List Block) → edges_of_blocks g at (map (named_block n) bs) ≡ edges_of_blocks f at bs
  edges_same at [] = refl
  edges_same at (b ∷ bs) = λ k. targets_same at (targets b.term) k ++ edges_same (at + 1) bs k

  block_edges_same : block_edges g ≡ block_edges f
  unfolding block_edges
  block_edges_same = edges_same 0 f.blocks

  reaches_back : (v block : ℕ) → ReachesWithout g v block → ReachesWithout f v block
  reaches_back v _ Entry = Entry
  reaches_back v _ (Next from to h unmade edge) = Next from to (reaches_back v from h) (λ l. unmade (values_within from v l)) (subst (IsListed {X = ℕ × ℕ} (from, to)) block_edges_same edge)

  undefined_back : (u w : Use) → IsLike u w → IsUndefined g w → IsUndefined f u
  undefined_back u w like h =
      record {
        reaches = subst (λ (v : ℕ). ReachesWithout f v u.block) like.value (subst (ReachesWithout f w.value) like.block (reaches_back w.value w.block h.reaches));
        not_before = λ l. h.not_before (like.before w.value (subst (λ (v : ℕ). IsListed v u.before) (sym like.value) l));
        no_param = λ l. h.no_param (subst (λ (v : ℕ). IsListed v (map (λ p. p.name) f.params)) (sym like.value) l);
      }

  none_now : (us ws : List Use) → AreLike us ws → Each (λ u. IsUndefined f u → ⊥) us → IsFirstUndefined g ws None
  none_now [] [] like h = Nowhere
  none_now [] (w ∷ ws) like h = absurd like
  none_now (u ∷ us) [] like h = absurd like
  none_now (u ∷ us) (w ∷ ws) like h = Later w ws None (λ undefined. h.0 (undefined_back u w like.0 undefined)) (none_now us ws like.1 h.1)

  pub none_undefined_now : (func : ℕ) → IsFirstUndefined f (uses_of func f) None → IsFirstUndefined g (uses_of func g) None
  none_undefined_now func h = none_now (uses_of func f) (uses_of func g) (like_blocks func 0 f.blocks unnamed) (none_undefined f (uses_of func f) None h refl)
