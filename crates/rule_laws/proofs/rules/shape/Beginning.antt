-- In a coroutine that doesn't break K5, what asks for begin stands where begin's value is made before.
use Rattle.std.proofs.Common.{◌≡◌, ◌⊎◌, inl, inr, ⊎_elim, ℕ, suc, ◌+◌, Bool, true, false, List, [], ◌∷◌, ◌++◌, length, refl, sym, ap, ◌∙◌, subst, arith}
use Rattle.std.proofs.lemmas.Option.{slice_get_past}
use Rattle.std.specs.Prelude.{Some, None, Option, option_to_list, slice_get}
use Rattle.ir_laws.proofs.paths.crossing.Spots.{listed_or}
use Rattle.rule_shape.specs.OneOfEach.{wrong_call}
use Rattle.rule_uses.specs.Undefined.{Entry, Next, ReachesWithout}
use Rattle.rule_uses.specs.Uses.{block_values, made_by_instrs, phi_values, values_in}
use Rattle.ir_laws.proofs.facts.Lists.{get_within}
use Rattle.ir_laws.specs.facts.renamed.Regular.{passes}
use Rattle.rule_laws.proofs.rules.path_rules.Outside.{of_outside}
use Rattle.ir_laws.proofs.paths.path_rules.Where.{has_where}
use Rattle.rule_laws.proofs.rules.source_rules.Once.{one_begin}
use Rattle.ir_laws.specs.flow_solver.Paths.{IsListed}
use Rattle.ir_parts.specs.Contents.{result_of}
use Rattle.ir_laws.specs.ir_model.declared.instr.Instr.{Instr}
use Rattle.ir_laws.specs.ir_model.declared.module.Block.{Block}
use Rattle.ir_laws.specs.ir_model.declared.module.Function.{Function}
use Rattle.ir_laws.specs.ir_model.declared.operand.Callee.{Callee}
use Rattle.ir_laws.specs.ir_model.declared.operand.Intrinsic.{Intrinsic}
use Rattle.ir_laws.proofs.ir_paths.Search.{Has, leads-more, or_left, same_point-itself}
use Rattle.ir_laws.specs.ir_paths.Paths.{Leads, has_point, nexts, same_point}
use Rattle.ir_laws.specs.ir_paths.Windows.{instr_at, instr_in, is_call_of}
use Rattle.ir_laws.specs.ir_paths.declared.point.Point.{Point}
use Rattle.flow_points.proofs.Neighbours.{next-inner}
use Rattle.flow_reach.proofs.Ways.{edge_leaves}
use Rattle.rule_laws.specs.rules.replaced.Splittable.{AreBegun, AreBlocksBegun}
use Rattle.ir_laws.specs.facts.replaced.Splittable.{asks_begin}
use Rattle.rule_windows.specs.Outside.{IsFirstOutside, needs_begin}
use Rattle.rule_windows.specs.Points.{begins, entry}
use Rattle.rule_windows.specs.Sets.{IsWithoutBegin}

asks_needs : (i : Instr) → asks_begin i ≡ true → needs_begin i ≡ true
asks_needs (Instr.Call r must_tail ty (Callee.Intrinsic Intrinsic.CoroSave) args) e = refl
asks_needs (Instr.Call r must_tail ty (Callee.Intrinsic Intrinsic.CoroSuspend) args) e = refl
asks_needs (Instr.Call r must_tail ty (Callee.Intrinsic Intrinsic.CoroFree) args) e = refl
asks_needs (Instr.Call r must_tail ty (Callee.Intrinsic Intrinsic.CoroFrame) args) e = refl
asks_needs (Instr.Call r must_tail ty (Callee.Intrinsic Intrinsic.CoroEnd) args) e = refl
asks_needs _ e = absurd (cc)

asks_other : (i : Instr) → asks_begin i ≡ true → is_call_of Intrinsic.CoroBegin i ≡ false
asks_other (Instr.Call r must_tail ty (Callee.Intrinsic Intrinsic.CoroSave) args) e = refl
asks_other (Instr.Call r must_tail ty (Callee.Intrinsic Intrinsic.CoroSuspend) args) e = refl
asks_other (Instr.Call r must_tail ty (Callee.Intrinsic Intrinsic.CoroFree) args) e = refl
asks_other (Instr.Call r must_tail ty (Callee.Intrinsic Intrinsic.CoroFrame) args) e = refl
asks_other (Instr.Call r must_tail ty (Callee.Intrinsic Intrinsic.CoroEnd) args) e = refl
asks_other _ e = absurd (cc)

-- nothing that asks for begin stands where a path from the entry leads without begin
abbrev pub NoneWithout : Function → Type 0
NoneWithout f = (p : Point) (i : Instr) → instr_at f p ≡ Some i → needs_begin i ≡ true → IsWithoutBegin f p → ⊥

module _ (f : Function) (begin : ℕ) (outside : NoneWithout f) (made : (p : Point) (i : Instr) → instr_at f p ≡ Some i → is_call_of Intrinsic.CoroBegin i ≡ true → result_of i ≡ Some begin) where
  -- ---- paths without begin

  -- a path leads from the entry to the point, and begin stands nowhere on it before
  abbrev Walks : Point → Type 0
  Walks p = (p ≡ entry) ⊎ ((has_point (begins f) entry ≡ false) × Leads f (begins f) entry p)

  walk_on : (p q : Point) → Walks p → has_point (begins f) p ≡ false → Has (nexts f p) q → Walks q
  walk_on p q (inl e) none edge = inr (ap (has_point (begins f)) (sym e) ∙ none, record { between = []; is_path = ap (λ (x : Point). has_point (nexts f x) q) (sym e) ∙ edge })
  walk_on p q (inr h) none edge = inr (h.0, leads-more f (begins f) entry p q h.1 none edge)

  not_begin : (p : Point) (i : Instr) → instr_at f p ≡ Some i → is_call_of Intrinsic.CoroBegin i ≡ false → has_point (begins f) p ≡ false
  not_begin p i e c = has_where (is_call_of Intrinsic.CoroBegin) f p ∙ ap (passes (is_call_of Intrinsic.CoroBegin)) e ∙ c

  without : (p : Point) (i : Instr) → instr_at f p ≡ Some i → is_call_of Intrinsic.CoroBegin i ≡ false → Walks p → IsWithoutBegin f p
  without p i e c (inl same) = record { begins_later = ap (has_point (begins f)) (sym same) ∙ not_begin p i e c; path = inl same }
  without p i e c (inr h) = record { begins_later = h.0; path = inr (record { start = entry; is_start = refl; path = h.1 }) }

  -- where begin's value isn't made, no path has come to begin
  abbrev Sound : ℕ → ℕ → List ℕ → Type 0
  Sound k j before = (IsListed begin before → ⊥) → Walks (record { block = k; at = j })

  listed_own : (o : Option ℕ) (xs : List ℕ) → o ≡ Some begin → IsListed begin (option_to_list o ++ xs)
  listed_own None xs e = absurd (cc)
  listed_own (Some n) xs e = let same : begin ≡ n = cc in inl same

  listed_behind : (o : Option ℕ) (xs : List ℕ) → IsListed begin xs → IsListed begin (option_to_list o ++ xs)
  listed_behind None xs l = l
  listed_behind (Some n) xs l = inr l

  sound_on : (k j : ℕ) (b : Block) (i : Instr) (before : List ℕ) → slice_get f.blocks k ≡ Some b → slice_get b.instrs j ≡ Some i → Sound k j before → Sound k (suc j) (option_to_list (result_of i) ++ before)
  sound_on k j b i before got stands sound none = walk_on here (record { block = k; at = suc j }) (sound (λ l. none (listed_behind (result_of i) before l))) (not_begin here i there no_call) edge
    where
      here : Point
      here = record { block = k; at = j }

      there : instr_at f (record { block = k; at = j }) ≡ Some i
      there = ap (λ (o : Option Block). instr_in o j) got ∙ stands

      by_call : (t : Bool) → is_call_of Intrinsic.CoroBegin i ≡ t → t ≡ false
      by_call true c = absurd (none (listed_own (result_of i) before (made (record { block = k; at = j }) i there c)))
      by_call false c = refl

      no_call : is_call_of Intrinsic.CoroBegin i ≡ false
      no_call = by_call (is_call_of Intrinsic.CoroBegin i) refl

      edge : Has (nexts f (record { block = k; at = j })) (record { block = k; at = suc j })
      edge = ap (λ (ps : List Point). has_point ps (record { block = k; at = suc j })) (next-inner f (record { block = k; at = j }) b got (get_within b.instrs j i stands)) ∙ one
        where
          one : has_point (record { block = k; at = j + 1 } ∷ []) (record { block = k; at = suc j }) ≡ true
          one = (let same : suc j ≡ j + 1 = omega arith in ap (λ (n : ℕ). has_point (record { block = k; at = j + 1 } ∷ []) (record { block = k; at = n })) same) ∙ or_left (same_point (record { block = k; at = j + 1 }) (record { block = k; at = j + 1 })) false (same_point-itself (record { block = k; at = j + 1 }))

  sound_rest : (k j : ℕ) (b : Block) (is : List Instr) (before : List ℕ) → slice_get f.blocks k ≡ Some b → ((m : ℕ) → slice_get is m ≡ slice_get b.instrs (j + m)) → Sound k j before → Sound k (j + length is) (made_by_instrs before is)
  sound_rest k j b [] before got same sound = let at : j ≡ j + 0 = omega arith in subst (λ (n : ℕ). Sound k n before) at sound
  sound_rest k j b (i ∷ is) before got same sound =
      let first : j + 0 ≡ j = omega arith in
      let at : suc j + length is ≡ j + suc (length is) = omega arith in
      subst (λ (n : ℕ). Sound k n (made_by_instrs before (i ∷ is))) at
      (sound_rest k (suc j) b is (option_to_list (result_of i) ++ before) got
      (λ m. same (suc m) ∙ (let next : j + suc m ≡ suc j + m = omega arith in ap (slice_get b.instrs) next))
      (sound_on k j b i before got (ap (slice_get b.instrs) (sym first) ∙ sym (same 0)) sound))

  sound_block : (k : ℕ) (b : Block) → slice_get f.blocks k ≡ Some b → Walks (record { block = k; at = 0 }) → Sound k (length b.instrs) (block_values b)
  sound_block k b got w =
      let all : 0 + length b.instrs ≡ length b.instrs = omega arith in
      subst (λ (n : ℕ). Sound k n (block_values b)) all
      (sound_rest k 0 b b.instrs (phi_values b) got (λ m. let same : m ≡ 0 + m = omega arith in ap (slice_get b.instrs) same) (λ none. w))

  -- ---- paths of blocks without begin

  walks_to : (k : ℕ) → ReachesWithout f begin k → Walks (record { block = k; at = 0 })
  walks_to _ Entry = inl refl
  walks_to _ (Next from to h unmade edge) =
      let x = edge_leaves f from to edge in
      let w = sound_block from x.block x.is_block (walks_to from h) (λ l. unmade (subst (λ (o : Option Block). IsListed begin (values_in o)) (sym x.is_block) l)) in
      let end : Point = record { block = from; at = length x.block.instrs } in
      walk_on end (record { block = to; at = 0 }) w (past from x.block x.is_block) x.leads
    where
      past : (from : ℕ) (b : Block) → slice_get f.blocks from ≡ Some b → has_point (begins f) (record { block = from; at = length b.instrs }) ≡ false
      past from b got =
          has_where (is_call_of Intrinsic.CoroBegin) f (record { block = from; at = length b.instrs })
          ∙ ap (passes (is_call_of Intrinsic.CoroBegin)) (ap (λ (o : Option Block). instr_in o (length b.instrs)) got ∙ slice_get_past b.instrs (length b.instrs) (omega arith))

  -- ---- instructions

  has_begin : (k j : ℕ) (b : Block) (i : Instr) (before : List ℕ) → slice_get f.blocks k ≡ Some b → slice_get b.instrs j ≡ Some i → Sound k j before → asks_begin i ≡ true → IsListed begin before
  has_begin k j b i before got stands sound asks =
      let here : Point = record { block = k; at = j } in
      let there : instr_at f here ≡ Some i = ap (λ (o : Option Block). instr_in o j) got ∙ stands in
      ⊎_elim (λ l. l) (λ none. absurd (outside here i there (asks_needs i asks) (without here i there (asks_other i asks) (sound none)))) (listed_or begin before)

  instrs_begun : (k j : ℕ) (b : Block) (is : List Instr) (before : List ℕ) → slice_get f.blocks k ≡ Some b → ((m : ℕ) → slice_get is m ≡ slice_get b.instrs (j + m)) → (ReachesWithout f begin k → Sound k j before) → AreBegun f begin k before is
  instrs_begun k j b [] before got same sound = tt
  instrs_begun k j b (i ∷ is) before got same sound =
      let first : j + 0 ≡ j = omega arith in
      let stands : slice_get b.instrs j ≡ Some i = ap (slice_get b.instrs) (sym first) ∙ sym (same 0) in (
        (λ asks reach. has_begin k j b i before got stands (sound reach) asks),
        instrs_begun k (suc j) b is (option_to_list (result_of i) ++ before) got
            (λ m. same (suc m) ∙ (let next : j + suc m ≡ suc j + m = omega arith in ap (slice_get b.instrs) next))
            (λ reach. sound_on k j b i before got stands (sound reach)),
      )

  block_begun : (k : ℕ) (b : Block) → slice_get f.blocks k ≡ Some b → AreBegun f begin k (phi_values b) b.instrs
  block_begun k b got = instrs_begun k 0 b b.instrs (phi_values b) got (λ m. let same : m ≡ 0 + m = omega arith in ap (slice_get b.instrs) same) (λ reach none. walks_to k reach)

-- what holds of each block at its position holds of all
all_begun : (f : Function) (begin at : ℕ) (bs : List Block) → ((j : ℕ) (b : Block) → slice_get bs j ≡ Some b → AreBegun f begin (at + j) (phi_values b) b.instrs) → AreBlocksBegun f begin at bs
all_begun f begin at [] h = tt
all_begun f begin at (b ∷ bs) h = (
  (let same : at + 0 ≡ at = omega arith in subst (λ (n : ℕ). AreBegun f begin n (phi_values b) b.instrs) same (h 0 b refl)),
  all_begun f begin (at + 1) bs (λ j c e. let same : at + suc j ≡ at + 1 + j = omega arith in subst (λ (n : ℕ). AreBegun f begin n (phi_values c) c.instrs) same (h (suc j) c e)),
)

-- the one begin
pub begins_made : (k : ℕ) (f : Function) (begin : ℕ) → f.coroutine ≡ true → wrong_call k f ≡ None → (q : Point) (j : Instr) → instr_at f q ≡ Some j → is_call_of Intrinsic.CoroBegin j ≡ true → result_of j ≡ Some begin → (p : Point) (i : Instr) → instr_at f p ≡ Some i → is_call_of Intrinsic.CoroBegin i ≡ true → result_of i ≡ Some begin
begins_made k f begin coroutine calls q j there is makes p i e c =
    let same : p ≡ q = one_begin k f coroutine calls p q i j e there c is in
    let both : Some i ≡ Some j = sym e ∙ ap (instr_at f) same ∙ there in
    let one : i ≡ j = cc in
    ap result_of one ∙ makes

pub begun_where : (f : Function) (begin : ℕ) → NoneWithout f → ((p : Point) (i : Instr) → instr_at f p ≡ Some i → is_call_of Intrinsic.CoroBegin i ≡ true → result_of i ≡ Some begin) → AreBlocksBegun f begin 0 f.blocks
begun_where f begin outside made =
    all_begun f begin 0 f.blocks
    (λ j b got. let same : j ≡ 0 + j = omega arith in subst (λ (n : ℕ). AreBegun f begin n (phi_values b) b.instrs) same (block_begun f begin outside made j b got))

pub none_without : (k : ℕ) (f : Function) → f.coroutine ≡ true → IsFirstOutside k f None → NoneWithout f
none_without k f coroutine outside p i e needs path = (of_outside k f coroutine outside).instrs p i e (inr (needs, path))
