-- Where saves are written, no use is undefined that was none (rule F2).
use Rattle.std.proofs.Common.{◌≡◌, inl, inr, ℕ, ◌+◌, Bool, true, false, List, [], ◌∷◌, ◌++◌, length, refl, sym, ap, ◌∙◌, subst}
use Rattle.std.specs.Prelude.{Some, None, Option, map, option_map, option_to_list, slice_get, if◌then◌else◌}
use Rattle.rule_laws.specs.flow_blocks.Edges.{block_edges, edges_of_blocks}
use Rattle.rule_laws.specs.ir_base.declared.outcome.Place.{Place}
use Rattle.rule_laws.specs.rule_uses.Undefined.{Entry, IsFirstUndefined, IsUndefined, Next, ReachesWithout}
use Rattle.rule_laws.specs.rule_uses.Uses.{Use, block_uses, block_values, blocks_uses, incoming_use, incoming_uses, instr_uses, local_of, locals_in, made_by_instrs, phi_uses, phi_values, use_of, uses_at, uses_of, values_at, values_in}
use Rattle.rule_laws.proofs.ir_laws.facts.Members.{each_behind}
use Rattle.rule_laws.proofs.rules.renamed.Outside.{each_left, each_right}
use Rattle.rule_laws.proofs.rules.renamed.Uses.{none_undefined}
use Rattle.pass_early.specs.Early.{save_call, saved}
use Rattle.pass_early_proof.proofs.early.saves.Tokens.{bare_is}
use Rattle.rule_laws.specs.flow_solver.Paths.{IsListed}
use Rattle.rule_laws.specs.ir_parts.Contents.{arg_operands, ending_operands, instr_operands, result_of}
use Rattle.rule_laws.specs.ir_parts.Parts.{instr_place}
use Rattle.ir_model.specs.Names.{position_of}
use Rattle.ir_model.specs.declared.instr.Incoming.{Incoming}
use Rattle.ir_model.specs.declared.instr.Instr.{Instr}
use Rattle.ir_model.specs.declared.instr.Phi.{Phi}
use Rattle.ir_model.specs.declared.module.Block.{Block}
use Rattle.ir_model.specs.declared.module.Function.{Function}
use Rattle.ir_model.specs.declared.operand.Operand.{Operand}
use Rattle.rule_laws.specs.ir_paths.Paths.{targets}
use Rattle.pass_early_proof.proofs.early.saves.Blocks.{get_block, position_saved}
use Rattle.pass_early_proof.specs.early.saves.SavesWritten.{behind_save, behind_saves, is_bare, saved_block, saved_blocks, saved_function, with_saves}
use Rattle.pass_early_proof.specs.early.saves.Spots.{number_of_block}
use Rattle.rule_laws.specs.run_laws.changed.Changed.{Each}
use Rattle.rule_laws.proofs.rules.path_rules.SavedUses.{all_defined}

-- ---- what blocks make

abbrev pub IsWithin : List ℕ → List ℕ → Type 0
IsWithin xs ys = (v : ℕ) → IsListed v xs → IsListed v ys

within_more : (xs ys : List ℕ) (n : ℕ) → IsWithin xs ys → IsWithin xs (n ∷ ys)
within_more xs ys n h v l = inr (h v l)

within_both : (o : Option ℕ) (xs ys : List ℕ) → IsWithin xs ys → IsWithin (option_to_list o ++ xs) (option_to_list o ++ ys)
within_both None xs ys h v l = h v l
within_both (Some n) xs ys h v (inl e) = inl e
within_both (Some n) xs ys h v (inr l) = inr (h v l)

-- a suspend that gets a save makes what it made
bare_result : (c : Bool) (n : ℕ) (i : Instr) → is_bare c i ≡ true → result_of (saved n i) ≡ result_of i
bare_result c n i e = let is = bare_is c i e in ap (λ (x : Instr). result_of (saved n x)) is.is ∙ sym (ap result_of is.is)

made_within : (c : Bool) (n : ℕ) (is : List Instr) (xs ys : List ℕ) → IsWithin xs ys → IsWithin (made_by_instrs xs is) (made_by_instrs ys (with_saves c n is))
made_within c n [] xs ys h = h
made_within c n (i ∷ is) xs ys h = on (is_bare c i) refl (λ zs k. made_within c (behind_save c n i) is (option_to_list (result_of i) ++ xs) zs k)
  where
    on : (b : Bool) → is_bare c i ≡ b → ((zs : List ℕ) → IsWithin (option_to_list (result_of i) ++ xs) zs → IsWithin (made_by_instrs (option_to_list (result_of i) ++ xs) is) (made_by_instrs zs (with_saves c (behind_save c n i) is))) → IsWithin (made_by_instrs (option_to_list (result_of i) ++ xs) is) (made_by_instrs ys ((if b then save_call n ∷ saved n i ∷ [] else i ∷ []) ++ with_saves c (behind_save c n i) is))
    on true e again = again (option_to_list (result_of (saved n i)) ++ n ∷ ys) (subst (λ (o : Option ℕ). IsWithin (option_to_list (result_of i) ++ xs) (option_to_list o ++ n ∷ ys)) (sym (bare_result c n i e)) (within_both (result_of i) xs (n ∷ ys) (within_more xs ys n h)))
    on false e again = again (option_to_list (result_of i) ++ ys) (within_both (result_of i) xs ys h)

block_within : (c : Bool) (n : ℕ) (b : Block) → IsWithin (block_values b) (block_values (saved_block c n b))
block_within c n b = made_within c n b.instrs (phi_values b) (phi_values b) (λ v l. l)

module _ (f : Function) where
  abbrev late : Function
  late = saved_function f

  pub values_within : (k : ℕ) → IsWithin (values_at f k) (values_at late k)
  values_within k = subst (λ (o : Option Block). IsWithin (values_at f k) (values_in o)) (sym (get_block f.coroutine k (length f.names) f.blocks)) (on (slice_get f.blocks k))
    where
      on : (o : Option Block) → IsWithin (values_in o) (values_in (option_map (saved_block f.coroutine (number_of_block f.coroutine k (length f.names) f.blocks)) o))
      on None = λ v l. l
      on (Some b) = block_within f.coroutine (number_of_block f.coroutine k (length f.names) f.blocks) b

  -- ---- paths of blocks

  targets_same : (from : ℕ) (ts : List ℕ) → map {B = ℕ × ℕ} (λ to. (from, to)) (map (position_of late) ts) ≡ map (λ to. (from, to)) (map (position_of f) ts)
  targets_same from [] = refl
  targets_same from (t ∷ ts) = λ k. (from, position_saved f t k) ∷ targets_same from ts k

  edges_same : (c : Bool) (n at : ℕ) (bs : List Block) → edges_of_blocks late at (saved_blocks c n bs) ≡ edges_of_blocks f at bs
  edges_same c n at [] = refl
  edges_same c n at (b ∷ bs) = λ k. targets_same at (targets b.term) k ++ edges_same c (behind_saves c n b.instrs) (at + 1) bs k

  pub block_edges_saved : block_edges late ≡ block_edges f
  unfolding block_edges
  block_edges_saved = edges_same f.coroutine (length f.names) 0 f.blocks

  reaches_home : (v block : ℕ) → ReachesWithout late v block → ReachesWithout f v block
  reaches_home v _ Entry = Entry
  reaches_home v _ (Next from to h unmade edge) = Next from to (reaches_home v from h) (λ l. unmade (values_within from v l)) (subst (IsListed {X = ℕ × ℕ} (from, to)) block_edges_saved edge)

-- ---- uses

-- what holds of each use of the function holds of each use where saves are written, if it does with more values made before, and of the token of the save right before a use
module _ (f : Function) (P Q : Use → Type 0) (fine_home : (p q : Place) (a b v : ℕ) (xs ys : List ℕ) → a ≡ b → (IsListed v xs → IsListed v ys) → P (use_of p a xs v) → Q (use_of q b ys v)) (token_fine : (q : Place) (k n : ℕ) (ys : List ℕ) → Q (use_of q k (n ∷ ys) n)) where
  abbrev written : Function
  written = saved_function f

  values_fine : (p q : Place) (k : ℕ) (xs ys : List ℕ) → IsWithin xs ys → (vs : List ℕ) → Each P (map (use_of p k xs) vs) → Each Q (map (use_of q k ys) vs)
  values_fine p q k xs ys h [] fine = tt
  values_fine p q k xs ys h (v ∷ vs) fine = (fine_home p q k k v xs ys refl (h v) fine.0, values_fine p q k xs ys h vs fine.1)

  operands_fine : (p q : Place) (k : ℕ) (xs ys : List ℕ) → IsWithin xs ys → (os : List Operand) → Each P (uses_at p k xs os) → Each Q (uses_at q k ys os)
  operands_fine p q k xs ys h os fine = values_fine p q k xs ys h (locals_in os) fine

  -- a suspend that takes the token of the save right before it
  bare_fine : (p q : Place) (k n : ℕ) (xs ys : List ℕ) (c : Bool) (i : Instr) → is_bare c i ≡ true → IsWithin xs (n ∷ ys) → Each P (uses_at p k xs (instr_operands i)) → Each Q (uses_at q k (n ∷ ys) (instr_operands (saved n i)))
  bare_fine p q k n xs ys c i e h = subst (λ (x : Instr). Each P (uses_at p k xs (instr_operands x)) → Each Q (uses_at q k (n ∷ ys) (instr_operands (saved n x)))) (sym (bare_is c i e).is) (λ fine. (token_fine q k n ys, operands_fine p q k xs (n ∷ ys) h (arg_operands (bare_is c i e).args) fine))

  instrs_fine : (func k : ℕ) (c : Bool) (n at to : ℕ) (xs ys : List ℕ) (is : List Instr) → IsWithin xs ys → Each P (instr_uses func k at xs is) → Each Q (instr_uses func k to ys (with_saves c n is))
  instrs_fine func k c n at to xs ys [] h fine = tt
  instrs_fine func k c n at to xs ys (i ∷ is) h fine =
      on (is_bare c i) refl
      (λ from zs w. instrs_fine func k c (behind_save c n i) (at + 1) from (option_to_list (result_of i) ++ xs) zs is w (each_right P (uses_at (instr_place func k at) k xs (instr_operands i)) (instr_uses func k (at + 1) (option_to_list (result_of i) ++ xs) is) fine))
    where
      own : Each P (uses_at (instr_place func k at) k xs (instr_operands i))
      own = each_left P (uses_at (instr_place func k at) k xs (instr_operands i)) (instr_uses func k (at + 1) (option_to_list (result_of i) ++ xs) is) fine

      rest : List Instr
      rest = with_saves c (behind_save c n i) is

      on : (b : Bool) → is_bare c i ≡ b → ((from : ℕ) (zs : List ℕ) → IsWithin (option_to_list (result_of i) ++ xs) zs → Each Q (instr_uses func k from zs rest)) → Each Q (instr_uses func k to ys ((if b then save_call n ∷ saved n i ∷ [] else i ∷ []) ++ rest))
      on true e again =
          each_behind Q (uses_at (instr_place func k (to + 1)) k (n ∷ ys) (instr_operands (saved n i))) (instr_uses func k (to + 1 + 1) (option_to_list (result_of (saved n i)) ++ n ∷ ys) rest)
          (bare_fine (instr_place func k at) (instr_place func k (to + 1)) k n xs ys c i e (within_more xs ys n h) own)
          (again (to + 1 + 1) (option_to_list (result_of (saved n i)) ++ n ∷ ys)
          (subst (λ (o : Option ℕ). IsWithin (option_to_list (result_of i) ++ xs) (option_to_list o ++ n ∷ ys)) (sym (bare_result c n i e)) (within_both (result_of i) xs (n ∷ ys) (within_more xs ys n h))))
      on false e again =
          each_behind Q (uses_at (instr_place func k to) k ys (instr_operands i)) (instr_uses func k (to + 1) (option_to_list (result_of i) ++ ys) rest)
          (operands_fine (instr_place func k at) (instr_place func k to) k xs ys h (instr_operands i) own)
          (again (to + 1) (option_to_list (result_of i) ++ ys) (within_both (result_of i) xs ys h))

  incoming_fine : (p : Place) (is : List Incoming) → Each P (incoming_uses f p is) → Each Q (incoming_uses written p is)
  incoming_fine p [] fine = tt
  incoming_fine p (i ∷ is) fine =
      each_behind Q (map (incoming_use written p i) (option_to_list (local_of i.value))) (incoming_uses written p is)
      (on (local_of i.value) (each_left P (map (incoming_use f p i) (option_to_list (local_of i.value))) (incoming_uses f p is) fine))
      (incoming_fine p is (each_right P (map (incoming_use f p i) (option_to_list (local_of i.value))) (incoming_uses f p is) fine))
    where
      on : (o : Option ℕ) → Each P (map (incoming_use f p i) (option_to_list o)) → Each Q (map (incoming_use written p i) (option_to_list o))
      on None h = tt
      on (Some v) h = (
        fine_home p p (position_of f i.from) (position_of written i.from) v (values_at f (position_of f i.from)) (values_at written (position_of written i.from)) (sym (position_saved f i.from))
            (λ l. subst (λ (k : ℕ). IsListed v (values_at written k)) (sym (position_saved f i.from)) (values_within f (position_of f i.from) v l)) h.0,
        tt,
      )

  phis_fine : (func k at : ℕ) (ps : List Phi) → Each P (phi_uses f func k at ps) → Each Q (phi_uses written func k at ps)
  phis_fine func k at [] fine = tt
  phis_fine func k at (p ∷ ps) fine =
      each_behind Q (incoming_uses written (instr_place func k at) p.incoming) (phi_uses written func k (at + 1) ps)
      (incoming_fine (instr_place func k at) p.incoming (each_left P (incoming_uses f (instr_place func k at) p.incoming) (phi_uses f func k (at + 1) ps) fine))
      (phis_fine func k (at + 1) ps (each_right P (incoming_uses f (instr_place func k at) p.incoming) (phi_uses f func k (at + 1) ps) fine))

  block_fine : (func k : ℕ) (c : Bool) (n : ℕ) (b : Block) → Each P (block_uses f func k b) → Each Q (block_uses written func k (saved_block c n b))
  unfolding block_uses
  block_fine func k c n b fine =
      let phis : List Use = phi_uses f func k 0 b.phis in
      let instrs : List Use = instr_uses func k (length b.phis) (phi_values b) b.instrs in
      let p : Place = instr_place func k (length b.phis + length b.instrs) in
      let q : Place = instr_place func k (length b.phis + length (with_saves c n b.instrs)) in
      let end : List Use = uses_at p k (block_values b) (ending_operands b.term) in
      let rest = each_right P phis (instrs ++ end) fine in
      each_behind Q (phi_uses written func k 0 b.phis) (instr_uses func k (length b.phis) (phi_values b) (with_saves c n b.instrs) ++ uses_at q k (block_values (saved_block c n b)) (ending_operands b.term))
      (phis_fine func k 0 b.phis (each_left P phis (instrs ++ end) fine))
      (each_behind Q (instr_uses func k (length b.phis) (phi_values b) (with_saves c n b.instrs)) (uses_at q k (block_values (saved_block c n b)) (ending_operands b.term))
      (instrs_fine func k c n (length b.phis) (length b.phis) (phi_values b) (phi_values b) b.instrs (λ v l. l) (each_left P instrs end rest))
      (operands_fine p q k (block_values b) (block_values (saved_block c n b)) (block_within c n b) (ending_operands b.term) (each_right P instrs end rest)))

  blocks_fine : (func k : ℕ) (c : Bool) (n : ℕ) (bs : List Block) → Each P (blocks_uses f func k bs) → Each Q (blocks_uses written func k (saved_blocks c n bs))
  blocks_fine func k c n [] fine = tt
  blocks_fine func k c n (b ∷ bs) fine =
      each_behind Q (block_uses written func k (saved_block c n b)) (blocks_uses written func (k + 1) (saved_blocks c (behind_saves c n b.instrs) bs))
      (block_fine func k c n b (each_left P (block_uses f func k b) (blocks_uses f func (k + 1) bs) fine))
      (blocks_fine func (k + 1) c (behind_saves c n b.instrs) bs (each_right P (block_uses f func k b) (blocks_uses f func (k + 1) bs) fine))

  pub uses_move : (func : ℕ) → Each P (uses_of func f) → Each Q (uses_of func written)
  uses_move func fine = blocks_fine func 0 f.coroutine (length f.names) f.blocks fine

pub undefined_saved : (func : ℕ) (f : Function) → IsFirstUndefined f (uses_of func f) None → IsFirstUndefined (saved_function f) (uses_of func (saved_function f)) None
undefined_saved func f h =
    all_defined (saved_function f) (uses_of func (saved_function f))
    (uses_move f (λ u. IsUndefined f u → ⊥) (λ u. IsUndefined (saved_function f) u → ⊥)
    (λ p q a b v xs ys same more fine undefined.
    fine (record {
      reaches = subst (ReachesWithout f v) (sym same) (reaches_home f v b undefined.reaches);
      not_before = λ l. undefined.not_before (more l);
      no_param = undefined.no_param;
    }))
    (λ q k n ys undefined. undefined.not_before (inl refl))
    func (none_undefined f (uses_of func f) None h refl))
