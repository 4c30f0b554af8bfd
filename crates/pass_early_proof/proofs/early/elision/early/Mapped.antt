-- Functions whose instructions, phis and terminators are changed one by one, each at its place.
use Rattle.std.proofs.Common.{◌≡◌, ℕ, suc, ◌+◌, Bool, true, false, List, [], ◌∷◌, ◌++◌, Some, None, Option, refl, sym, ap, ◌∙◌, subst}
use Rattle.std.proofs.lemmas.Option.{slice_get-map}
use Rattle.std.specs.List.{list_any}
use Rattle.std.specs.Prelude.{count_by, find, flat_map, map, not, option_and_then, option_map, slice_get, unwrap_or, ◌&&◌, ◌||◌, ◌==◌, if◌then◌else◌}
use Rattle.rule_laws.specs.flow_blocks.Kinds.{kind_in, kind_of, kind_of_ending, suspended}
use Rattle.rule_laws.specs.rule_shape.Uses.{block_operands, phi_operands, uses_of}
use Rattle.rule_laws.proofs.ir_laws.facts.Lists.{any_same, first_same, count_both, count_changed, count_given, find_changed, found, map_none}
use Rattle.rule_laws.proofs.ir_laws.facts.Truth.{equal_numbers}
use Rattle.run_states.proofs.renamed.Modules.{length_same}
use Rattle.pass_early_proof.proofs.early.elision.early.Alike.{AreAlike, AreBlocksAlike, AreNextAlike, IsBlockAlike, IsCallAlike, IsFreeAlike, IsPhiAlike}
use Rattle.rule_laws.proofs.ir_laws.paths.alike_functions.Lists.{each_where}
use Rattle.elide_sites.specs.elide_shape.Calls.{deals_by, gives_size, is_other, is_size_value, is_without_phis, one_other, only_call, passing}
use Rattle.elide_sites.specs.elide_shape.Edges.{edges_by, edges_of, edges_out, jumps_to, ways_on}
use Rattle.elide_sites.specs.elide_shape.Frames.{rets_give_frame}
use Rattle.elide_sites.specs.elide_shape.Frees.{releases, sides_of}
use Rattle.elide_sites.specs.elide_shape.Guard.{takes_second, value_if_sized}
use Rattle.elide_sites.specs.elide_shape.declared.calls.Dealing.{Dealing}
use Rattle.elide_sites.specs.Destroyed.{has_at, has_in, is_free, is_stop}
use Rattle.rule_laws.specs.ir_parts.Contents.{ending_operands, instr_operands}
use Rattle.ir_model.specs.Names.{intrinsic_number, is_local, position_of, same_intrinsic}
use Rattle.ir_model.specs.declared.instr.Instr.{Instr}
use Rattle.ir_model.specs.declared.instr.Phi.{Phi}
use Rattle.ir_model.specs.declared.instr.Terminator.{Terminator}
use Rattle.ir_model.specs.declared.module.Block.{Block}
use Rattle.ir_model.specs.declared.module.Function.{Function}
use Rattle.ir_model.specs.declared.operand.Callee.{Callee}
use Rattle.ir_model.specs.declared.operand.Intrinsic.{Intrinsic}
use Rattle.ir_model.specs.declared.operand.Operand.{Operand}
use Rattle.rule_laws.specs.ir_paths.Paths.{targets}
use Rattle.rule_laws.specs.ir_paths.Windows.{call_operand, call_result, end_block, instr_at, instr_in, is_call_of, points_from, points_in, points_where}
use Rattle.rule_laws.specs.ir_paths.declared.point.Point.{Point}
use Rattle.rule_laws.specs.run_laws.changed.Changed.{Each}
use Rattle.rule_laws.specs.ir_base.declared.name.Name as names

-- a deallocator or an allocator that is called is no intrinsic
dealt_otherwise : (d : Dealing) (k : Intrinsic) (i : Instr) → deals_by d i ≡ true → is_call_of k i ≡ false
dealt_otherwise d k (Instr.Call result must_tail ty (Callee.Allocator a) args) e = refl
dealt_otherwise d k (Instr.Call result must_tail ty (Callee.Intrinsic a) args) e = absurd (cc)
dealt_otherwise d k (Instr.Call result must_tail ty (Callee.Named a) args) e = refl
dealt_otherwise d k (Instr.Call result must_tail ty (Callee.Local a) args) e = refl
dealt_otherwise d k (Instr.Binary name op flags ty a b) e = refl
dealt_otherwise d k (Instr.Icmp name pred ty a b) e = refl
dealt_otherwise d k (Instr.Select name x a b) e = refl
dealt_otherwise d k (Instr.Cast name op nneg arg to) e = refl
dealt_otherwise d k (Instr.Alloca name ty align) e = refl
dealt_otherwise d k (Instr.Load name ty p align) e = refl
dealt_otherwise d k (Instr.Store arg p align) e = refl
dealt_otherwise d k (Instr.Gep name inbounds ty base indices) e = refl

module _ (f : Function) (more : List names.Name) (Q : List Phi → List Phi) (P : Phi → Phi) (I : Instr → Instr) (T : Terminator → Terminator) (Name : ℕ → Type 0) where
  abbrev pub change : Block → Block
  change b = record { label = b.label; phis = Q b.phis; instrs = map I b.instrs; term = T b.term }

  abbrev pub changed : Function
  changed = record f { blocks = map change f.blocks; names = more }

  abbrev stays : Point → Point
  stays p = p

  pub record IsChange : Type 0 where
    pub phis : (ps : List Phi) → Q ps ≡ map P ps
    pub call_of : (k : Intrinsic) (i : Instr) → is_call_of k (I i) ≡ is_call_of k i
    pub deals : (d : Dealing) (i : Instr) → deals_by d (I i) ≡ deals_by d i
    pub result : (i : Instr) → is_call_of Intrinsic.CoroBegin i ≡ false → call_result (I i) ≡ call_result i
    pub size : (v : ℕ) (i : Instr) → gives_size v (I i) ≡ gives_size v i
    pub operand : (v k : ℕ) (i : Instr) → Name v → is_local v (call_operand (I i) k) ≡ is_local v (call_operand i k)
    pub instr_uses : (v : ℕ) (i : Instr) → Name v → count_by (is_local v) (instr_operands (I i)) ≡ count_by (is_local v) (instr_operands i)
    pub phi_uses : (v : ℕ) (p : Phi) → Name v → count_by (is_local v) (phi_operands (P p)) ≡ count_by (is_local v) (phi_operands p)
    pub term_uses : (v : ℕ) (t : Terminator) → Name v → count_by (is_local v) (ending_operands (T t)) ≡ count_by (is_local v) (ending_operands t)
    pub sized : (i : Instr) → is_size_value f (call_operand (I i) 0) ≡ is_size_value f (call_operand i 0)
    pub rets : rets_give_frame changed ≡ rets_give_frame f
    pub ways : (v : ℕ) (t : Terminator) → Name v → ways_on (Some v) (T t) ≡ ways_on (Some v) t
    pub jumps : (k : ℕ) (t : Terminator) → jumps_to f k (T t) ≡ jumps_to f k t
    pub targets_stay : (t : Terminator) → targets (T t) ≡ targets t
    pub kinds : (k : ℕ) (b : Block) → slice_get f.blocks k ≡ Some b → (at : ℕ) → kind_of_ending (suspended (map I b.instrs)) (T b.term) at ≡ kind_of_ending (suspended b.instrs) b.term at
    pub tests : (p : Point) (i : Instr) → instr_at f p ≡ Some i → (v : ℕ) (t : Terminator) → Name v → ((c : ℕ) → Name c → uses_of changed c ≡ uses_of f c) → sides_of changed v (Some (I i)) (T t) ≡ sides_of f v (Some i) t
    pub made : (p : Point) (i : Instr) (v : ℕ) → instr_at f p ≡ Some i → is_call_of Intrinsic.CoroBegin i ≡ false → is_call_of Intrinsic.CoroFrame i ≡ false → call_result i ≡ Some v → Name v
    pub phis_alike : ((l : ℕ) → position_of changed l ≡ position_of f l) → ((v : ℕ) → Name v → uses_of changed v ≡ uses_of f v) → (k : ℕ) (b : Block) → slice_get f.blocks k ≡ Some b → Each (IsPhiAlike f changed stays Name P) b.phis

  module _ (is : IsChange) where
    abbrev g : Function
    g = changed

    position_same : (label : ℕ) → position_of g label ≡ position_of f label
    position_same label = (λ i. unwrap_or (first_same change (λ b. b.label == label) (λ b. b.label == label) (λ b. refl) f.blocks i) (length_same change f.blocks i))

    block_same : (k : ℕ) → slice_get g.blocks k ≡ option_map change (slice_get f.blocks k)
    block_same k = slice_get-map change f.blocks k

    instr_same : (p : Point) → instr_at g p ≡ option_map I (instr_at f p)
    instr_same p = ap (λ (o : Option Block). instr_in o p.at) (block_same p.block) ∙ on (slice_get f.blocks p.block)
      where
        on : (o : Option Block) → instr_in (option_map change o) p.at ≡ option_map I (instr_in o p.at)
        on None = refl
        on (Some b) = slice_get-map I b.instrs p.at

    -- ---- uses

    block_uses : (v : ℕ) → Name v → (b : Block) → count_by (is_local v) (block_operands (change b)) ≡ count_by (is_local v) (block_operands b)
    block_uses v name b =
        let phis : count_by (is_local v) (flat_map phi_operands (Q b.phis)) ≡ count_by (is_local v) (flat_map phi_operands b.phis) =
        ap (λ (ps : List Phi). count_by (is_local v) (flat_map phi_operands ps)) (is.phis b.phis)
        ∙ count_given (is_local v) phi_operands phi_operands P (λ p. is.phi_uses v p name) b.phis
        in
        let instrs = count_given (is_local v) instr_operands instr_operands I (λ i. is.instr_uses v i name) b.instrs in
        count_both (is_local v) (flat_map phi_operands (Q b.phis)) (flat_map instr_operands (map I b.instrs) ++ ending_operands (T b.term))
        ∙ ap (λ (n : ℕ). count_by (is_local v) (flat_map phi_operands (Q b.phis)) + n) (count_both (is_local v) (flat_map instr_operands (map I b.instrs)) (ending_operands (T b.term)))
        ∙ (λ i. phis i + (instrs i + is.term_uses v b.term name i))
        ∙ sym (ap (λ (n : ℕ). count_by (is_local v) (flat_map phi_operands b.phis) + n) (count_both (is_local v) (flat_map instr_operands b.instrs) (ending_operands b.term)))
        ∙ sym (count_both (is_local v) (flat_map phi_operands b.phis) (flat_map instr_operands b.instrs ++ ending_operands b.term))

    uses_same : (v : ℕ) → Name v → uses_of g v ≡ uses_of f v
    uses_same v name = count_given (is_local v) block_operands block_operands change (block_uses v name) f.blocks

    -- ---- edges

    kind_same : (k at : ℕ) → kind_of g k at ≡ kind_of f k at
    kind_same k at = ap (λ (o : Option Block). kind_in o at) (block_same k) ∙ on (slice_get f.blocks k) refl
      where
        on : (o : Option Block) → slice_get f.blocks k ≡ o → kind_in (option_map change o) at ≡ kind_in o at
        on None e = refl
        on (Some b) e = is.kinds k b e at

    out_same : (from at : ℕ) (ls : List ℕ) → edges_out g from at ls ≡ edges_out f from at ls
    out_same from at [] = refl
    out_same from at (l ∷ ls) = λ i. record { from = from; to = position_same l i; kind = kind_same from at i } ∷ out_same from (at + 1) ls i

    by_same : (from : ℕ) (bs : List Block) → edges_by g from (map change bs) ≡ edges_by f from bs
    by_same from [] = refl
    by_same from (b ∷ bs) = λ i. (ap (edges_out g from 0) (is.targets_stay b.term) ∙ out_same from 0 (targets b.term)) i ++ by_same (from + 1) bs i

    edges_same : edges_of g ≡ edges_of f
    unfolding edges_of
    edges_same = by_same 0 f.blocks

    -- ---- calls of allocators

    without_same : (ps : List Phi) → is_without_phis (Q ps) ≡ is_without_phis ps
    without_same ps = ap is_without_phis (is.phis ps) ∙ on ps
      where
        on : (ps : List Phi) → is_without_phis (map P ps) ≡ is_without_phis ps
        on [] = refl
        on (p ∷ ps) = refl

    other_same : (i : Instr) → is_other (I i) ≡ is_other i
    other_same i = λ k. not (is.call_of Intrinsic.CoroSizeI32 i k || is.call_of Intrinsic.CoroSizeI64 i k)

    one_same : (is : List Instr) → one_other (map I is) ≡ option_map I (one_other is)
    one_same xs =
        (λ k. if count_changed is_other is_other I other_same xs k == 1 then find_changed is_other is_other I other_same xs k else None)
        ∙ on (count_by is_other xs == 1)
      where
        on : (b : Bool) → (if b then option_map I (find is_other xs) else None) ≡ option_map I (if b then find is_other xs else None)
        on true = refl
        on false = refl

    passing_same : (d : Dealing) (o : Option Instr) → passing (deals_by d) (option_map I o) ≡ option_map I (passing (deals_by d) o)
    passing_same d None = refl
    passing_same d (Some i) = ap (λ (b : Bool). if b then Some (I i) else None) (is.deals d i) ∙ on (deals_by d i)
      where
        on : (b : Bool) → (if b then Some (I i) else None) ≡ option_map I (if b then Some i else None)
        on true = refl
        on false = refl

    only_same : (d : Dealing) (b : Block) → only_call d (change b) ≡ option_map I (only_call d b)
    only_same d b =
        (λ k. if without_same b.phis k then (ap (passing (deals_by d)) (one_same b.instrs) ∙ passing_same d (one_other b.instrs)) k else None)
        ∙ on (is_without_phis b.phis)
      where
        on : (t : Bool) → (if t then option_map I (passing (deals_by d) (one_other b.instrs)) else None) ≡ option_map I (if t then passing (deals_by d) (one_other b.instrs) else None)
        on true = refl
        on false = refl

    -- the one call stands somewhere in the block
    record IsOnly (d : Dealing) (b : Block) (i : Instr) : Type 0 where
      at : ℕ
      stands : slice_get b.instrs at ≡ Some i
      dealt : deals_by d i ≡ true

    only_stands : (d : Dealing) (b : Block) (i : Instr) → only_call d b ≡ Some i → IsOnly d b i
    only_stands d b i e = phis (is_without_phis b.phis) e
      where
        passed : (o : Option Instr) → one_other b.instrs ≡ o → passing (deals_by d) o ≡ Some i → IsOnly d b i
        passed None h e = absurd (cc)
        passed (Some x) h e = on (deals_by d x) refl e
          where
            one : (t : Bool) → (if t then find is_other b.instrs else None) ≡ Some x → find is_other b.instrs ≡ Some x
            one true e = e
            one false e = absurd (cc)

            on : (t : Bool) → deals_by d x ≡ t → (if t then Some x else None) ≡ Some i → IsOnly d b i
            on true k e =
                let same : x ≡ i = cc in
                let there = found is_other b.instrs x (one (count_by is_other b.instrs == 1) h) in
                record { at = there.at; stands = there.is ∙ ap Some same; dealt = ap (deals_by d) (sym same) ∙ k }
            on false k e = absurd (cc)

        phis : (t : Bool) → (if t then passing (deals_by d) (one_other b.instrs) else None) ≡ Some i → IsOnly d b i
        phis true e = passed (one_other b.instrs) refl e
        phis false e = absurd (cc)

    size_value_same : (x : Operand) → is_size_value g x ≡ is_size_value f x
    size_value_same (Operand.Local v) = any_same change (λ b. list_any (gives_size v) b.instrs) (λ b. list_any (gives_size v) b.instrs) (λ b. any_same I (gives_size v) (gives_size v) (is.size v) b.instrs) f.blocks
    size_value_same (Operand.Global n) = refl
    size_value_same (Operand.Number z) = refl
    size_value_same Operand.True = refl
    size_value_same Operand.False = refl
    size_value_same Operand.Null = refl
    size_value_same Operand.None = refl
    size_value_same Operand.Poison = refl

    sized_same : (d : Dealing) (o : Option Instr) → ((i : Instr) → o ≡ Some i → deals_by d i ≡ true) → value_if_sized g (option_map I o) ≡ value_if_sized f o
    sized_same d None h = refl
    sized_same d (Some i) h = λ k. if (size_value_same (call_operand (I i) 0) ∙ is.sized i) k then is.result i (dealt_otherwise d Intrinsic.CoroBegin i (h i refl)) k else None

    releases_same : (v : ℕ) → Name v → (o : Option Instr) → releases v (option_map I o) ≡ releases v o
    releases_same v name None = refl
    releases_same v name (Some i) = λ k. is.deals Dealing.Frees i k && is.operand v 0 i name k

    -- ---- blocks

    jumps_same : (k : ℕ) (t : Terminator) → jumps_to g k t ≡ jumps_to f k t
    jumps_same k (Terminator.Jump label) = ap (λ (n : ℕ). n == k) (position_same label)
    jumps_same k (Terminator.Branch x a b) = refl
    jumps_same k (Terminator.Switch arg default cases) = refl
    jumps_same k (Terminator.Ret v) = refl
    jumps_same k Terminator.Unreachable = refl

    second_same : (v : ℕ) → Name v → (o : Option Instr) → takes_second v (option_map I o) ≡ takes_second v o
    second_same v name None = refl
    second_same v name (Some i) = is.operand v 1 i name

    block_alike : (k : ℕ) (b : Block) → slice_get f.blocks k ≡ Some b → IsBlockAlike f g stays Name P b (change b)
    block_alike k b e = record {
      phis = is.phis b.phis;
      each = is.phis_alike position_same uses_same k b e;
      sized = ap (value_if_sized g) (only_same Dealing.Allocates b) ∙ sized_same Dealing.Allocates (only_call Dealing.Allocates b) (λ i o. (only_stands Dealing.Allocates b i o).dealt);
      sized_name = sized_name (only_call Dealing.Allocates b) refl;
      released = λ v name. ap (releases v) (only_same Dealing.Frees b) ∙ releases_same v name (only_call Dealing.Frees b);
      begins = λ v name.
          ap (takes_second v) (find_changed (is_call_of Intrinsic.CoroBegin) (is_call_of Intrinsic.CoroBegin) I (is.call_of Intrinsic.CoroBegin) b.instrs)
          ∙ second_same v name (find (is_call_of Intrinsic.CoroBegin) b.instrs);
      jumps = λ n. jumps_same n (T b.term) ∙ is.jumps n b.term;
      ways = λ v name. is.ways v b.term name;
    }
      where
        of_result : (i : Instr) → only_call Dealing.Allocates b ≡ Some i → (m : ℕ) → call_result i ≡ Some m → Name m
        of_result i o m r =
            let there = only_stands Dealing.Allocates b i o in
            is.made (record { block = k; at = there.at }) i m (ap (λ (x : Option Block). instr_in x there.at) e ∙ there.stands) (dealt_otherwise Dealing.Allocates Intrinsic.CoroBegin i there.dealt) (dealt_otherwise Dealing.Allocates Intrinsic.CoroFrame i there.dealt) r

        sized_name : (o : Option Instr) → only_call Dealing.Allocates b ≡ o → (m : ℕ) → value_if_sized f o ≡ Some m → Name m
        sized_name None h m r = absurd (cc)
        sized_name (Some i) h m r = on (is_size_value f (call_operand i 0)) r
          where
            on : (t : Bool) → (if t then call_result i else None) ≡ Some m → Name m
            on true r = of_result i h m r
            on false r = absurd (cc)

    blocks_alike : (k : ℕ) → AreBlocksAlike f g stays Name P (slice_get f.blocks k) (slice_get g.blocks k)
    blocks_alike k = subst (AreBlocksAlike f g stays Name P (slice_get f.blocks k)) (sym (block_same k)) (on (slice_get f.blocks k) refl)
      where
        on : (o : Option Block) → slice_get f.blocks k ≡ o → AreBlocksAlike f g stays Name P o (option_map change o)
        on None e = tt
        on (Some b) e = block_alike k b e

    -- ---- calls

    points_from_same : (t : Instr → Bool) → ((i : Instr) → t (I i) ≡ t i) → (block at : ℕ) (xs : List Instr) → points_from t block at (map I xs) ≡ points_from t block at xs
    points_from_same t h block at [] = refl
    points_from_same t h block at (i ∷ xs) = λ k.
        if h i k then record { block = block; at = at } ∷ points_from_same t h block (suc at) xs k else points_from_same t h block (suc at) xs k

    points_in_same : (t : Instr → Bool) → ((i : Instr) → t (I i) ≡ t i) → (block : ℕ) (bs : List Block) → points_in t block (map change bs) ≡ points_in t block bs
    points_in_same t h block [] = refl
    points_in_same t h block (b ∷ bs) = λ k. points_from_same t h block 0 b.instrs k ++ points_in_same t h (suc block) bs k

    points_same : (j : Intrinsic) → points_where (is_call_of j) g ≡ map stays (points_where (is_call_of j) f)
    points_same j = points_in_same (is_call_of j) (is.call_of j) 0 f.blocks ∙ sym (map_none (points_where (is_call_of j) f))

    call_alike : (p : Point) (i : Instr) → instr_at f p ≡ Some i → is_call_of Intrinsic.CoroBegin i ≡ false → is_call_of Intrinsic.CoroFrame i ≡ false → IsCallAlike f g stays Name P p
    call_alike p i e begin frame = record {
      block = refl;
      value = ap (option_and_then call_result) (instr_same p ∙ ap (option_map I) e) ∙ is.result i begin ∙ sym (ap (option_and_then call_result) e);
      name = λ v r. is.made p i v e begin frame (sym (ap (option_and_then call_result) e) ∙ r);
    }

    next_alike : (k at : ℕ) → AreNextAlike f g stays Name P (slice_get f.blocks k) (slice_get g.blocks k) at at
    next_alike k at = subst (λ (o : Option Block). AreNextAlike f g stays Name P (slice_get f.blocks k) o at at) (sym (block_same k)) (on (slice_get f.blocks k) refl)
      where
        on : (o : Option Block) → slice_get f.blocks k ≡ o → AreNextAlike f g stays Name P o (option_map change o) at at
        on None e = tt
        on (Some b) e = record {
          released = λ v name. ap (releases v) (slice_get-map I b.instrs at) ∙ releases_same v name (slice_get b.instrs at);
          sides = λ v name.
              (λ j. if at + 1 == length_same I b.instrs j then (ap (λ (o : Option Instr). sides_of g v o (T b.term)) (slice_get-map I b.instrs at) ∙ test v name (slice_get b.instrs at) refl) j else None);
        }
          where
            test : (v : ℕ) → Name v → (o : Option Instr) → slice_get b.instrs at ≡ o → sides_of g v (option_map I o) (T b.term) ≡ sides_of f v o b.term
            test v name None h = refl
            test v name (Some i) h = is.tests (record { block = k; at = at }) i (ap (λ (x : Option Block). instr_in x at) e ∙ h) v b.term name uses_same

    other_call : (j k : Intrinsic) (i : Instr) → ((x : Intrinsic) → same_intrinsic j x ≡ true → same_intrinsic k x ≡ false) → is_call_of j i ≡ true → is_call_of k i ≡ false
    other_call j k (Instr.Call result must_tail ty (Callee.Intrinsic x) args) h e = h x e
    other_call j k (Instr.Call result must_tail ty (Callee.Named x) args) h e = refl
    other_call j k (Instr.Call result must_tail ty (Callee.Allocator x) args) h e = refl
    other_call j k (Instr.Call result must_tail ty (Callee.Local x) args) h e = refl
    other_call j k (Instr.Binary name op flags ty a b) h e = refl
    other_call j k (Instr.Icmp name pred ty a b) h e = refl
    other_call j k (Instr.Select name x a b) h e = refl
    other_call j k (Instr.Cast name op nneg arg to) h e = refl
    other_call j k (Instr.Alloca name ty align) h e = refl
    other_call j k (Instr.Load name ty p align) h e = refl
    other_call j k (Instr.Store arg p align) h e = refl
    other_call j k (Instr.Gep name inbounds ty base indices) h e = refl

    -- ---- what blocks hold

    has_same : (t : Instr → Bool) → ((i : Instr) → t (I i) ≡ t i) → (k : ℕ) → has_at t g k ≡ has_at t f k
    has_same t h k = ap (has_in t) (block_same k) ∙ on (slice_get f.blocks k)
      where
        on : (o : Option Block) → has_in t (option_map change o) ≡ has_in t o
        on None = refl
        on (Some b) = any_same I t t h b.instrs

    end_same : end_block g ≡ end_block f
    end_same = λ k.
        unwrap_or (first_same change (λ b. list_any (is_call_of Intrinsic.CoroEnd) b.instrs) (λ b. list_any (is_call_of Intrinsic.CoroEnd) b.instrs) (λ b. any_same I (is_call_of Intrinsic.CoroEnd) (is_call_of Intrinsic.CoroEnd) (is.call_of Intrinsic.CoroEnd) b.instrs) f.blocks k)
        (length_same change f.blocks k)

    pub change_alike : AreAlike f g stays Name P
    change_alike = record {
      coroutine = refl;
      position = position_same;
      edges = edges_same;
      uses = uses_same;
      blocks = blocks_alike;
      allocs = points_same Intrinsic.CoroAlloc;
      each_alloc = each_where (IsCallAlike f g stays Name P) (is_call_of Intrinsic.CoroAlloc) f (λ p i e t. call_alike p i e (alloc_begin i t) (alloc_frame i t));
      frees = points_same Intrinsic.CoroFree;
      each_free = each_where (IsFreeAlike f g stays Name P) (is_call_of Intrinsic.CoroFree) f (λ p i e t. record { call = call_alike p i e (free_begin i t) (free_frame i t); next = next_alike p.block (p.at + 1) });
      rets = is.rets;
      has_free = has_same is_free (is.call_of Intrinsic.CoroFree);
      has_stop = has_same is_stop (λ i k. is.call_of Intrinsic.CoroSave i k || is.call_of Intrinsic.CoroSuspend i k);
      end = end_same;
    }
      where
        alloc_begin : (i : Instr) → is_call_of Intrinsic.CoroAlloc i ≡ true → is_call_of Intrinsic.CoroBegin i ≡ false
        alloc_begin i t = other_call Intrinsic.CoroAlloc Intrinsic.CoroBegin i (λ x e. ap (λ (n : ℕ). intrinsic_number Intrinsic.CoroBegin == n) (sym (equal_numbers (intrinsic_number Intrinsic.CoroAlloc) (intrinsic_number x) e))) t

        alloc_frame : (i : Instr) → is_call_of Intrinsic.CoroAlloc i ≡ true → is_call_of Intrinsic.CoroFrame i ≡ false
        alloc_frame i t = other_call Intrinsic.CoroAlloc Intrinsic.CoroFrame i (λ x e. ap (λ (n : ℕ). intrinsic_number Intrinsic.CoroFrame == n) (sym (equal_numbers (intrinsic_number Intrinsic.CoroAlloc) (intrinsic_number x) e))) t

        free_begin : (i : Instr) → is_call_of Intrinsic.CoroFree i ≡ true → is_call_of Intrinsic.CoroBegin i ≡ false
        free_begin i t = other_call Intrinsic.CoroFree Intrinsic.CoroBegin i (λ x e. ap (λ (n : ℕ). intrinsic_number Intrinsic.CoroBegin == n) (sym (equal_numbers (intrinsic_number Intrinsic.CoroFree) (intrinsic_number x) e))) t

        free_frame : (i : Instr) → is_call_of Intrinsic.CoroFree i ≡ true → is_call_of Intrinsic.CoroFrame i ≡ false
        free_frame i t = other_call Intrinsic.CoroFree Intrinsic.CoroFrame i (λ x e. ap (λ (n : ℕ). intrinsic_number Intrinsic.CoroFrame == n) (sym (equal_numbers (intrinsic_number Intrinsic.CoroFree) (intrinsic_number x) e))) t
