-- Where the allocas of the entry block are moved to its front, no use becomes undefined (rule F2), and what asks for begin stands behind it.
use Rattle.std.proofs.Common.{◌≡◌, ◌⊎◌, inl, inr, ⊎_elim, ℕ, suc, ◌+◌, Bool, true, false, List, [], ◌∷◌, ◌++◌, length, refl, sym, ◌∙◌, subst, arith}
use Rattle.std.specs.Prelude.{None, Option, Some, filter, map, option_to_list, slice_get, unwrap_or, ◌==◌, if◌then◌else◌}
use Rattle.flow_blocks.specs.Edges.{block_edges, edges_of_blocks}
use Rattle.ir_laws.specs.ir_base.declared.outcome.Place.{Place}
use Rattle.rule_uses.specs.Undefined.{Entry, IsFirstUndefined, IsUndefined, Next, ReachesWithout}
use Rattle.rule_uses.specs.Uses.{Use, block_uses, block_values, blocks_uses, incoming_use, incoming_uses, instr_uses, local_of, locals_in, made_by_instrs, phi_uses, phi_values, use_of, uses_at, uses_of, values_at, values_in}
use Rattle.ir_laws.proofs.facts.Members.{each_behind, each_left, each_right}
use Rattle.rule_laws.proofs.rules.renamed.Uses.{AreOfBlock, none_undefined, of_block, three_kinds}
use Rattle.rule_laws.proofs.rules.path_rules.SavedUses.{all_defined}
use Rattle.ir_laws.proofs.paths.source_rules.Locals.{listed_either, listed_left, listed_right}
use Rattle.rule_laws.proofs.rules.source_rules.Locals.{made_by}
use Rattle.ir_laws.proofs.facts.Lists.{row_of, source_of, to_source}
use Rattle.ir_laws.specs.flow_solver.Paths.{IsListed}
use Rattle.rule_laws.proofs.rules.counted.Lists.{made_grows, made_joined, made_listed}
use Rattle.rule_laws.proofs.rules.counted.Members.{made_either}
use Rattle.ir_laws.specs.pass_front.Front.{allocas_first, is_alloca, is_no_alloca, with_allocas_first, with_front_allocas}
use Rattle.ir_parts.specs.Contents.{ending_operands, instr_operands}
use Rattle.ir_parts.specs.Parts.{instr_place}
use Rattle.ir_laws.specs.ir_model.Names.{first_where, position_of}
use Rattle.ir_laws.specs.ir_model.declared.instr.Incoming.{Incoming}
use Rattle.ir_laws.specs.ir_model.declared.instr.Instr.{Instr}
use Rattle.ir_laws.specs.ir_model.declared.instr.Phi.{Phi}
use Rattle.ir_laws.specs.ir_model.declared.module.Block.{Block}
use Rattle.ir_laws.specs.ir_model.declared.module.Function.{Function}
use Rattle.ir_laws.specs.ir_paths.Paths.{targets}
use Rattle.ir_laws.proofs.facts.Numbers.{First, IsSource, Same}
use Rattle.rule_laws.specs.rules.replaced.Splittable.{AreBegun, AreBlocksBegun}
use Rattle.ir_laws.specs.facts.replaced.Splittable.{asks_begin}
use Rattle.ir_laws.specs.run_laws.changed.Changed.{Each}
use Rattle.rule_laws.proofs.rules.front_rules.Shape.{no_operands}

-- ---- blocks stand at the same positions

first_same : (label : ℕ) (bs : List Block) → first_where (λ b. b.label == label) (with_allocas_first bs) ≡ first_where (λ b. b.label == label) bs
first_same label [] = refl
first_same label (b ∷ bs) = refl

same_count : (bs : List Block) → length (with_allocas_first bs) ≡ length bs
same_count [] = refl
same_count (b ∷ bs) = refl

pub same_position : (f : Function) (label : ℕ) → position_of (with_front_allocas f) label ≡ position_of f label
same_position f label i = unwrap_or (first_same label f.blocks i) (same_count f.blocks i)

pub same_edges : (f : Function) → block_edges (with_front_allocas f) ≡ block_edges f
unfolding block_edges
same_edges f = first f.blocks
  where
    each : (from : ℕ) (bs : List Block) → edges_of_blocks (with_front_allocas f) from bs ≡ edges_of_blocks f from bs
    each from [] = refl
    each from (b ∷ bs) = λ i. map (λ to. (from, to)) (map (λ label. same_position f label i) (targets b.term)) ++ each (from + 1) bs i

    first : (bs : List Block) → edges_of_blocks (with_front_allocas f) 0 (with_allocas_first bs) ≡ edges_of_blocks f 0 bs
    first [] = refl
    first (b ∷ bs) = λ i. map (λ to. (0, to)) (map (λ label. same_position f label i) (targets b.term)) ++ each 1 bs i

-- ---- what is made

split_made : (v : ℕ) (is : List Instr) → IsListed v (row_of made_by is) → IsListed v (row_of made_by (filter is_alloca is)) ⊎ IsListed v (row_of made_by (filter is_no_alloca is))
split_made v [] l = absurd l
split_made v (i ∷ is) l = on (is_alloca i) (split_made v is) (listed_either v (made_by i) (row_of made_by is) l)
  where
    on : (b : Bool) → (IsListed v (row_of made_by is) → IsListed v (row_of made_by (filter is_alloca is)) ⊎ IsListed v (row_of made_by (filter is_no_alloca is))) → IsListed v (made_by i) ⊎ IsListed v (row_of made_by is) → IsListed v (row_of made_by (if b then i ∷ filter is_alloca is else filter is_alloca is)) ⊎ IsListed v (row_of made_by (if (if b then false else true) then i ∷ filter is_no_alloca is else filter is_no_alloca is))
    on true more (inl here) = inl (listed_left v (made_by i) (row_of made_by (filter is_alloca is)) here)
    on true more (inr l) = ⊎_elim (λ a. inl (listed_right v (made_by i) (row_of made_by (filter is_alloca is)) a)) (λ b. inr b) (more l)
    on false more (inl here) = inr (listed_left v (made_by i) (row_of made_by (filter is_no_alloca is)) here)
    on false more (inr l) = ⊎_elim (λ a. inl a) (λ b. inr (listed_right v (made_by i) (row_of made_by (filter is_no_alloca is)) b)) (more l)

first_made : (v : ℕ) (before : List ℕ) (is : List Instr) → IsListed v (made_by_instrs before is) → IsListed v (made_by_instrs before (filter is_alloca is ++ filter is_no_alloca is))
first_made v before is l =
    let xs : List Instr = filter is_alloca is in
    let ys : List Instr = filter is_no_alloca is in
    subst (IsListed v) (sym (made_joined before xs ys))
    (⊎_elim (λ a. made_grows ys (made_by_instrs before xs) v (made_grows xs before v a))
    (λ r. ⊎_elim (λ a. made_grows ys (made_by_instrs before xs) v (made_listed xs before v a)) (λ b. made_listed ys (made_by_instrs before xs) v b) (split_made v is r))
    (made_either is before v l))

source_values : (v : ℕ) (b c : Block) → IsSource b c → IsListed v (block_values b) → IsListed v (block_values c)
source_values v b _ Same l = l
source_values v b _ First l = first_made v (phi_values b) b.instrs l

no_asking : (i : Instr) → is_alloca i ≡ true → asks_begin i ≡ false
no_asking (Instr.Alloca r ty align) e = refl
no_asking _ e = absurd (cc)

module _ (f : Function) where
  abbrev h : Function
  h = with_front_allocas f

  values_there : (v q : ℕ) → IsListed v (values_at f q) → IsListed v (values_at h q)
  values_there v q l = on (slice_get f.blocks q) refl
    where
      on : (o : Option Block) → slice_get f.blocks q ≡ o → IsListed v (values_at h q)
      on None e = absurd (subst (λ (o : Option Block). IsListed v (values_in o)) e l)
      on (Some b) e =
          let x = to_source f.blocks q b e in
          subst (λ (o : Option Block). IsListed v (values_in o)) (sym x.1.0) (source_values v b x.0 x.1.1 (subst (λ (o : Option Block). IsListed v (values_in o)) e l))

  -- a path of the one is a path of the other
  pub path_back : (v q : ℕ) → ReachesWithout h v q → ReachesWithout f v q
  path_back v _ Entry = Entry
  path_back v _ (Next from to r none e) = Next from to (path_back v from r) (λ l. none (values_there v from l)) (subst (IsListed (from, to)) (same_edges f) e)

  -- ---- uses

  abbrev Fine : Function → Use → Type 0
  Fine g u = IsUndefined g u → ⊥

  abbrev Within : List ℕ → List ℕ → Type 0
  Within before made = (v : ℕ) → IsListed v before → IsListed v made

  use_fine : (p q : Place) (k v : ℕ) (before made : List ℕ) → Within before made → Fine f (use_of p k before v) → Fine h (use_of q k made v)
  use_fine p q k v before made within fine u = fine (record { reaches = path_back v k u.reaches; not_before = λ l. u.not_before (within v l); no_param = u.no_param })

  values_fine : (p q : Place) (k : ℕ) (before made : List ℕ) → Within before made → (vs : List ℕ) → Each (Fine f) (map (use_of p k before) vs) → Each (Fine h) (map (use_of q k made) vs)
  values_fine p q k before made within [] e = tt
  values_fine p q k before made within (v ∷ vs) e = (use_fine p q k v before made within e.0, values_fine p q k before made within vs e.1)

  grows_both : (i : Instr) (before made : List ℕ) → Within before made → Within (made_by i ++ before) (made_by i ++ made)
  grows_both i before made k v l = ⊎_elim (λ a. listed_left v (made_by i) made a) (λ b. listed_right v (made_by i) made (k v b)) (listed_either v (made_by i) before l)

  grows_one : (i : Instr) (before made : List ℕ) → Within (made_by i) made → Within before made → Within (made_by i ++ before) made
  grows_one i before made own k v l = ⊎_elim (own v) (k v) (listed_either v (made_by i) before l)

  module _ (func q : ℕ) where
    same_fine : (at now : ℕ) (before made : List ℕ) → Within before made → (is : List Instr) → Each (Fine f) (instr_uses func q at before is) → Each (Fine h) (instr_uses func q now made is)
    same_fine at now before made k [] e = tt
    same_fine at now before made k (i ∷ is) e =
        let first : List Use = uses_at (instr_place func q at) q before (instr_operands i) in
        let rest : List Use = instr_uses func q (at + 1) (made_by i ++ before) is in
        each_behind (Fine h) (uses_at (instr_place func q now) q made (instr_operands i)) (instr_uses func q (now + 1) (made_by i ++ made) is)
        (values_fine (instr_place func q at) (instr_place func q now) q before made k (locals_in (instr_operands i)) (each_left (Fine f) first rest e))
        (same_fine (at + 1) (now + 1) (made_by i ++ before) (made_by i ++ made) (grows_both i before made k) is (each_right (Fine f) first rest e))

    others_fine : (at now : ℕ) (before made : List ℕ) → Within before made → (is : List Instr) → Within (row_of made_by (filter is_alloca is)) made → Each (Fine f) (instr_uses func q at before is) → Each (Fine h) (instr_uses func q now made (filter is_no_alloca is))
    others_fine at now before made k [] a e = tt
    others_fine at now before made k (i ∷ is) a e =
        let first : List Use = uses_at (instr_place func q at) q before (instr_operands i) in
        let rest : List Use = instr_uses func q (at + 1) (made_by i ++ before) is in
        on (is_alloca i) a (each_left (Fine f) first rest e)
        (λ own more. others_fine (at + 1) now (made_by i ++ before) made (grows_one i before made own k) is more (each_right (Fine f) first rest e))
        (λ more. others_fine (at + 1) (now + 1) (made_by i ++ before) (made_by i ++ made) (grows_both i before made k) is more (each_right (Fine f) first rest e))
      where
        on : (b : Bool) → Within (row_of made_by (if b then i ∷ filter is_alloca is else filter is_alloca is)) made → Each (Fine f) (uses_at (instr_place func q at) q before (instr_operands i)) → (Within (made_by i) made → Within (row_of made_by (filter is_alloca is)) made → Each (Fine h) (instr_uses func q now made (filter is_no_alloca is))) → (Within (row_of made_by (filter is_alloca is)) (made_by i ++ made) → Each (Fine h) (instr_uses func q (now + 1) (made_by i ++ made) (filter is_no_alloca is))) → Each (Fine h) (instr_uses func q now made (if (if b then false else true) then i ∷ filter is_no_alloca is else filter is_no_alloca is))
        on true c here moved stays = moved (λ v l. c v (listed_left v (made_by i) (row_of made_by (filter is_alloca is)) l)) (λ v l. c v (listed_right v (made_by i) (row_of made_by (filter is_alloca is)) l))
        on false c here moved stays =
            each_behind (Fine h) (uses_at (instr_place func q now) q made (instr_operands i)) (instr_uses func q (now + 1) (made_by i ++ made) (filter is_no_alloca is))
            (values_fine (instr_place func q at) (instr_place func q now) q before made k (locals_in (instr_operands i)) here)
            (stays (λ v l. listed_right v (made_by i) made (c v l)))

    allocas_fine : (now : ℕ) (made : List ℕ) (is rest : List Instr) → ((late : ℕ) → Each (Fine h) (instr_uses func q late (made_by_instrs made (filter is_alloca is)) rest)) → Each (Fine h) (instr_uses func q now made (filter is_alloca is ++ rest))
    allocas_fine now made [] rest e = e now
    allocas_fine now made (i ∷ is) rest e = on (is_alloca i) refl e (λ next made d. allocas_fine next made is rest d)
      where
        on : (b : Bool) → is_alloca i ≡ b → ((late : ℕ) → Each (Fine h) (instr_uses func q late (made_by_instrs made (if b then i ∷ filter is_alloca is else filter is_alloca is)) rest)) → ((next : ℕ) (made : List ℕ) → ((late : ℕ) → Each (Fine h) (instr_uses func q late (made_by_instrs made (filter is_alloca is)) rest)) → Each (Fine h) (instr_uses func q next made (filter is_alloca is ++ rest))) → Each (Fine h) (instr_uses func q now made ((if b then i ∷ filter is_alloca is else filter is_alloca is) ++ rest))
        on true t d more =
            each_behind (Fine h) (uses_at (instr_place func q now) q made (instr_operands i)) (instr_uses func q (now + 1) (made_by i ++ made) (filter is_alloca is ++ rest))
            (subst (λ xs. Each (Fine h) (uses_at (instr_place func q now) q made xs)) (sym (no_operands i t)) tt)
            (more (now + 1) (made_by i ++ made) d)
        on false t d more = more now made d

    phis_fine : (at : ℕ) (ps : List Phi) → Each (Fine f) (phi_uses f func q at ps) → Each (Fine h) (phi_uses h func q at ps)
    phis_fine at [] e = tt
    phis_fine at (p ∷ ps) e =
        let first : List Use = incoming_uses f (instr_place func q at) p.incoming in
        let rest : List Use = phi_uses f func q (at + 1) ps in
        each_behind (Fine h) (incoming_uses h (instr_place func q at) p.incoming) (phi_uses h func q (at + 1) ps)
        (incoming_fine (instr_place func q at) p.incoming (each_left (Fine f) first rest e))
        (phis_fine (at + 1) ps (each_right (Fine f) first rest e))
      where
        one_fine : (p : Place) (i : Incoming) (vs : List ℕ) → Each (Fine f) (map (incoming_use f p i) vs) → Each (Fine h) (map (incoming_use h p i) vs)
        one_fine p i [] e = tt
        one_fine p i (v ∷ vs) e = (
          subst (λ (n : ℕ). Fine h (use_of p n (values_at h n) v)) (sym (same_position f i.from))
              (use_fine p p (position_of f i.from) v (values_at f (position_of f i.from)) (values_at h (position_of f i.from)) (λ w l. values_there w (position_of f i.from) l) e.0),
          one_fine p i vs e.1,
        )

        incoming_fine : (p : Place) (is : List Incoming) → Each (Fine f) (incoming_uses f p is) → Each (Fine h) (incoming_uses h p is)
        incoming_fine p [] e = tt
        incoming_fine p (i ∷ is) e =
            let first : List Use = map (incoming_use f p i) (option_to_list (local_of i.value)) in
            each_behind (Fine h) (map (incoming_use h p i) (option_to_list (local_of i.value))) (incoming_uses h p is)
            (one_fine p i (option_to_list (local_of i.value)) (each_left (Fine f) first (incoming_uses f p is) e))
            (incoming_fine p is (each_right (Fine f) first (incoming_uses f p is) e))

    block_fine : (b c : Block) → IsSource b c → AreOfBlock (Fine f) f func q b → Each (Fine h) (block_uses h func q c)
    unfolding block_uses
    block_fine b _ Same e =
        let place : Place = instr_place func q (length b.phis + length b.instrs) in
        each_behind (Fine h) (phi_uses h func q 0 b.phis) (instr_uses func q (length b.phis) (phi_values b) b.instrs ++ uses_at place q (block_values b) (ending_operands b.term))
        (phis_fine 0 b.phis e.phis)
        (each_behind (Fine h) (instr_uses func q (length b.phis) (phi_values b) b.instrs) (uses_at place q (block_values b) (ending_operands b.term))
        (same_fine (length b.phis) (length b.phis) (phi_values b) (phi_values b) (λ v l. l) b.instrs e.instrs)
        (values_fine place place q (block_values b) (block_values b) (λ v l. l) (locals_in (ending_operands b.term)) e.term))
    block_fine b _ First e =
        let c : Block = allocas_first b in
        let place : Place = instr_place func q (length b.phis + length b.instrs) in
        let now : Place = instr_place func q (length b.phis + length c.instrs) in
        each_behind (Fine h) (phi_uses h func q 0 b.phis) (instr_uses func q (length b.phis) (phi_values b) c.instrs ++ uses_at now q (block_values c) (ending_operands b.term))
        (phis_fine 0 b.phis e.phis)
        (each_behind (Fine h) (instr_uses func q (length b.phis) (phi_values b) c.instrs) (uses_at now q (block_values c) (ending_operands b.term))
        (allocas_fine (length b.phis) (phi_values b) b.instrs (filter is_no_alloca b.instrs)
        (λ late. others_fine (length b.phis) late (phi_values b) (made_by_instrs (phi_values b) (filter is_alloca b.instrs)) (λ v l. made_grows (filter is_alloca b.instrs) (phi_values b) v l) b.instrs (λ v l. made_listed (filter is_alloca b.instrs) (phi_values b) v l) e.instrs))
        (values_fine place now q (block_values b) (block_values c) (λ v l. first_made v (phi_values b) b.instrs l) (locals_in (ending_operands b.term)) e.term))

  all_blocks : (func at : ℕ) (bs : List Block) → ((k : ℕ) (c : Block) → slice_get bs k ≡ Some c → Each (Fine h) (block_uses h func (at + k) c)) → Each (Fine h) (blocks_uses h func at bs)
  all_blocks func at [] e = tt
  all_blocks func at (c ∷ bs) e =
      each_behind (Fine h) (block_uses h func at c) (blocks_uses h func (at + 1) bs)
      (let same : at + 0 ≡ at = omega arith in subst (λ (n : ℕ). Each (Fine h) (block_uses h func n c)) same (e 0 c refl))
      (all_blocks func (at + 1) bs (λ k d g. let same : at + suc k ≡ at + 1 + k = omega arith in subst (λ (n : ℕ). Each (Fine h) (block_uses h func n d)) same (e (suc k) d g)))

  pub uses_kept : (func : ℕ) → IsFirstUndefined f (uses_of func f) None → IsFirstUndefined (with_front_allocas f) (uses_of func (with_front_allocas f)) None
  uses_kept func none =
      let fine : Each (Fine f) (uses_of func f) = none_undefined f (uses_of func f) None none refl in
      all_defined h (uses_of func h)
      (all_blocks func 0 h.blocks (λ k c there.
      let same : k ≡ 0 + k = omega arith in
      let x = source_of f.blocks k c there in
      subst (λ (n : ℕ). Each (Fine h) (block_uses h func n c)) same (block_fine func k x.0 c x.1.1 (three_kinds (Fine f) f func k x.0 (of_block (Fine f) f func k x.0 fine x.1.0)))))

  -- ---- begin

  module _ (begin q : ℕ) where
    same_begun : (before : List ℕ) (is : List Instr) → AreBegun f begin q before is → AreBegun h begin q before is
    same_begun before [] m = tt
    same_begun before (i ∷ is) m = ((λ asks r. m.0 asks (path_back begin q r)), same_begun (made_by i ++ before) is m.1)

    others_begun : (before made : List ℕ) (is : List Instr) → Within before made → Within (row_of made_by (filter is_alloca is)) made → AreBegun f begin q before is → AreBegun h begin q made (filter is_no_alloca is)
    others_begun before made [] k a m = tt
    others_begun before made (i ∷ is) k a m =
        on (is_alloca i) a
        (λ own rest. others_begun (made_by i ++ before) made is (grows_one i before made own k) rest m.1)
        (λ rest. others_begun (made_by i ++ before) (made_by i ++ made) is (grows_both i before made k) rest m.1)
      where
        on : (b : Bool) → Within (row_of made_by (if b then i ∷ filter is_alloca is else filter is_alloca is)) made → (Within (made_by i) made → Within (row_of made_by (filter is_alloca is)) made → AreBegun h begin q made (filter is_no_alloca is)) → (Within (row_of made_by (filter is_alloca is)) (made_by i ++ made) → AreBegun h begin q (made_by i ++ made) (filter is_no_alloca is)) → AreBegun h begin q made (if (if b then false else true) then i ∷ filter is_no_alloca is else filter is_no_alloca is)
        on true c moved stays = moved (λ v l. c v (listed_left v (made_by i) (row_of made_by (filter is_alloca is)) l)) (λ v l. c v (listed_right v (made_by i) (row_of made_by (filter is_alloca is)) l))
        on false c moved stays = ((λ asks r. k begin (m.0 asks (path_back begin q r))), stays (λ v l. listed_right v (made_by i) made (c v l)))

    allocas_begun : (made : List ℕ) (is rest : List Instr) → AreBegun h begin q (made_by_instrs made (filter is_alloca is)) rest → AreBegun h begin q made (filter is_alloca is ++ rest)
    allocas_begun made [] rest m = m
    allocas_begun made (i ∷ is) rest m = on (is_alloca i) refl m (λ next k. allocas_begun next is rest k)
      where
        on : (b : Bool) → is_alloca i ≡ b → AreBegun h begin q (made_by_instrs made (if b then i ∷ filter is_alloca is else filter is_alloca is)) rest → ((next : List ℕ) → AreBegun h begin q (made_by_instrs next (filter is_alloca is)) rest → AreBegun h begin q next (filter is_alloca is ++ rest)) → AreBegun h begin q made ((if b then i ∷ filter is_alloca is else filter is_alloca is) ++ rest)
        on true e k more = ((λ asks r. let t : true ≡ false = sym asks ∙ no_asking i e in absurd (cc)), more (made_by i ++ made) k)
        on false e k more = more made k

    source_begun : (b c : Block) → IsSource b c → AreBegun f begin q (phi_values b) b.instrs → AreBegun h begin q (phi_values c) c.instrs
    source_begun b _ Same m = same_begun (phi_values b) b.instrs m
    source_begun b _ First m =
        allocas_begun (phi_values b) b.instrs (filter is_no_alloca b.instrs)
        (others_begun (phi_values b) (made_by_instrs (phi_values b) (filter is_alloca b.instrs)) b.instrs (λ v l. made_grows (filter is_alloca b.instrs) (phi_values b) v l) (λ v l. made_listed (filter is_alloca b.instrs) (phi_values b) v l) m)

  rest_begun : (begin at : ℕ) (bs : List Block) → AreBlocksBegun f begin at bs → AreBlocksBegun h begin at bs
  rest_begun begin at [] m = tt
  rest_begun begin at (b ∷ bs) m = (same_begun begin at (phi_values b) b.instrs m.0, rest_begun begin (at + 1) bs m.1)

  pub begun_kept : (begin : ℕ) → AreBlocksBegun f begin 0 f.blocks → AreBlocksBegun (with_front_allocas f) begin 0 (with_front_allocas f).blocks
  begun_kept begin m = on f.blocks m
    where
      on : (bs : List Block) → AreBlocksBegun f begin 0 bs → AreBlocksBegun h begin 0 (with_allocas_first bs)
      on [] m = tt
      on (b ∷ bs) m = (source_begun begin 0 b (allocas_first b) First m.0, rest_begun begin 1 bs m.1)
