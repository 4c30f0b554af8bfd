-- What is put in makes each number of a range at most once, and no other.
use Rattle.std.proofs.Common.{◌≡◌, ℕ, ◌+◌, ◌≤◌, Bool, true, false, List, [], ◌∷◌, ◌++◌, refl, ap, arith}
use Rattle.std.specs.Prelude.{Option, Some, None, map, option_to_list, pos, slice_get, if◌then◌else◌}
use Rattle.pass_fetch_proof.proofs.cells.rules.Around.{again_low, saved_low}
use Rattle.pass_fetch_proof.proofs.cells.rules.Indices.{behind_low}
use Rattle.pass_fetch_proof.proofs.cells.rules.Instrs.{same_made}
use Rattle.pass_edges_proof.proofs.rule_laws.rules.counted.Times.{Adds, adds_as, adds_joined, adds_none, adds_one, adds_wider, made_both, made_one, made_times, same_times}
use Rattle.pass_edges_proof.proofs.rule_laws.rules.source_rules.Locals.{made_by}
use Rattle.pass_edges_proof.specs.ir_parts.Contents.{instr_operands, result_of}
use Rattle.pass_edges_proof.specs.ir_base.declared.ops.BinOp.{BinOp}
use Rattle.pass_edges_proof.specs.ir_base.declared.ops.CastOp.{CastOp}
use Rattle.pass_edges_proof.specs.pass_distances.Sums.{distance_instrs, distance_next, is_wide, on_number, start_instrs, start_value, sum_instrs, sum_next, sum_value, way_instrs, widened, widening}
use Rattle.pass_edges_proof.specs.pass_distances.Ways.{ways_of}
use Rattle.pass_edges_proof.specs.pass_distances.declared.way.Way.{Way}
use Rattle.ir_model.specs.Ty.{Ty, int}
use Rattle.ir_model.specs.declared.instr.Instr.{Instr}
use Rattle.ir_model.specs.declared.instr.Phi.{Phi}
use Rattle.ir_model.specs.declared.module.Block.{Block}
use Rattle.ir_model.specs.declared.module.Module.{Module}
use Rattle.ir_model.specs.declared.module.Param.{Param}
use Rattle.ir_model.specs.declared.operand.Arg.{Arg}
use Rattle.ir_model.specs.declared.operand.Operand.{Operand}
use Rattle.pass_edges_proof.specs.pass_fetch.Blocks.{next_after_phi, next_after_phis, next_after_phis_by}
use Rattle.pass_edges_proof.specs.pass_fetch.Fetching.{fetch_into, fetch_of, fetches_by, fetches_of, fetches_of_all, next_after, next_after_all, next_by}
use Rattle.pass_edges_proof.specs.pass_fetch.Instrs.{fetched_instr, fetched_instrs, next_after_instr, next_after_instrs, with_fetched}
use Rattle.pass_edges_proof.specs.pass_fetch.declared.fetch.Fetch.{Fetch}
use Rattle.pass_edges_proof.specs.pass_cells.Kept.{entry}
use Rattle.pass_edges_proof.specs.pass_cells.Moves.{address_again, after_again, after_saved, again_one, again_values, saved_one, saved_values}
use Rattle.pass_edges_proof.specs.ir_laws.facts.woven_rules.Pairs.{times}
use Rattle.pass_edges_proof.specs.pass_cells.Written.{after_distance, after_distance_into, after_instrs, after_one, distance_behind, distance_from, distance_into, save_row, stored, stored_at, stored_one, stored_params, stored_phis, stored_result, written_instrs, written_one}
use Rattle.pass_edges_proof.specs.pass_cells.declared.plan.KeptValue.{KeptValue}
use Rattle.pass_edges_proof.specs.pass_cells.declared.plan.Plan.{Plan}

module _ (n : ℕ) where
  -- a list behind a list
  pub lists_joined : (first mid last a b : ℕ) (xs ys : List Instr) → first ≤ mid → mid ≤ last → Adds first mid n a (made_times n xs) → Adds mid last n b (made_times n ys) → Adds first last n (a + b) (made_times n (xs ++ ys))
  lists_joined first mid last a b xs ys le ge h k =
      adds_as first last n (a + b) (made_times n xs + made_times n ys) (a + b) (made_times n (xs ++ ys)) refl (made_both n xs ys) (adds_joined first mid last n a b (made_times n xs) (made_times n ys) le ge h k)

  -- a list that is known behind a list
  pub list_behind : (first last a b : ℕ) (xs ys : List Instr) → made_times n ys ≡ b → Adds first last n a (made_times n xs) → Adds first last n (a + b) (made_times n (xs ++ ys))
  list_behind first last a b xs ys e h =
      let both : made_times n (xs ++ ys) ≡ made_times n xs + made_times n ys = made_both n xs ys in
      let sum : made_times n xs ≡ a + h.extra = h.sum in
      record { extra = h.extra; sum = omega (arith, both, sum, e); within = h.within }

  -- ---- values on their way

  saved_one_times : (k : ℕ) (o : Option KeptValue) → Adds k (k + 1) n 0 (made_times n (saved_one k o))
  saved_one_times k None = adds_none k (k + 1) n 0 0 refl
  saved_one_times k (Some x) = adds_as k (k + 1) n 0 (same_times k n) 0 (same_times k n + 0) refl (omega arith) (adds_one k n)

  pub saved_times : (kept : List KeptValue) (k : ℕ) (ks : List ℕ) → Adds k (after_saved k ks) n 0 (made_times n (saved_values kept k ks))
  saved_times kept k [] = adds_none k k n 0 0 refl
  saved_times kept k (x ∷ xs) =
      lists_joined k (k + 1) (after_saved (k + 1) xs) 0 0 (saved_one k (slice_get kept x)) (saved_values kept (k + 1) xs) (omega arith) (saved_low (k + 1) (k + 1) xs (omega arith))
      (saved_one_times k (slice_get kept x)) (saved_times kept (k + 1) xs)

  address_times : (k cell : ℕ) (o : Option ℕ) → Adds (k + 1) (k + 2) n 0 (made_times n (address_again k cell o))
  address_times k cell None = adds_none (k + 1) (k + 2) n 0 0 refl
  address_times k cell (Some s) =
      let le : k + 1 + 1 ≤ k + 2 = omega arith in
      adds_wider (k + 1) (k + 1 + 1) (k + 1) (k + 2) n 0 (same_times (k + 1) n + 0) (omega arith) le
      (adds_as (k + 1) (k + 1 + 1) n 0 (same_times (k + 1) n) 0 (same_times (k + 1) n + 0) refl (omega arith) (adds_one (k + 1) n))

  again_one_times : (k : ℕ) (o : Option KeptValue) → Adds k (k + 2) n 0 (made_times n (again_one k o))
  again_one_times k None = adds_none k (k + 2) n 0 0 refl
  again_one_times k (Some x) = adds_joined k (k + 1) (k + 2) n 0 0 (same_times k n) (made_times n (address_again k x.cell x.slot)) (omega arith) (omega arith) (adds_one k n) (address_times k x.cell x.slot)

  pub again_times : (kept : List KeptValue) (k : ℕ) (ks : List ℕ) → Adds k (after_again k ks) n 0 (made_times n (again_values kept k ks))
  again_times kept k [] = adds_none k k n 0 0 refl
  again_times kept k (x ∷ xs) =
      lists_joined k (k + 2) (after_again (k + 2) xs) 0 0 (again_one k (slice_get kept x)) (again_values kept (k + 2) xs) (omega arith) (again_low (k + 2) (k + 2) xs (omega arith))
      (again_one_times k (slice_get kept x)) (again_times kept (k + 2) xs)

  -- ---- what is stored makes nothing

  one_stored : (v : ℕ) (o : Option KeptValue) → made_times n (stored_one v o) ≡ 0
  one_stored v None = refl
  one_stored v (Some x) = refl

  at_stored : (kept : List KeptValue) (v : ℕ) (o : Option ℕ) → made_times n (stored_at kept v o) ≡ 0
  at_stored kept v None = refl
  at_stored kept v (Some k) = one_stored v (slice_get kept k)

  value_stored : (p : Plan) (v : ℕ) → made_times n (stored p v) ≡ 0
  value_stored p v = at_stored p.kept v (entry p.places v)

  pub result_stored : (p : Plan) (o : Option ℕ) → made_times n (stored_result p o) ≡ 0
  result_stored p None = refl
  result_stored p (Some v) = value_stored p v

  pub phis_stored : (p : Plan) (xs : List Phi) → made_times n (stored_phis p xs) ≡ 0
  phis_stored p [] = refl
  phis_stored p (x ∷ xs) =
      let both = made_both n (stored p x.result) (stored_phis p xs) in
      let here = value_stored p x.result in
      let rest = phis_stored p xs in
      omega (arith, both, here, rest)

  pub params_stored : (p : Plan) (xs : List Param) → made_times n (stored_params p xs) ≡ 0
  params_stored p [] = refl
  params_stored p (x ∷ xs) =
      let both = made_both n (stored p x.name) (stored_params p xs) in
      let here = value_stored p x.name in
      let rest = params_stored p xs in
      omega (arith, both, here, rest)

  -- ---- distances

  widening_by : (k : ℕ) (a : Arg) (b : Bool) (is : List Instr) → made_times n is ≡ same_times k n → Adds k (k + 1) n 0 (made_times n (if b then [] else is))
  widening_by k a true is e = adds_none k (k + 1) n 0 0 refl
  widening_by k a false is e = adds_as k (k + 1) n 0 (same_times k n) 0 (made_times n is) refl e (adds_one k n)

  way_times : (k : ℕ) (x : Operand) (way : Way) → Adds k (k + 3) n 0 (made_times n (way_instrs k x way))
  way_times k x (Way.Bytes b) =
      let ge : k + 2 + 1 ≤ k + 3 = omega arith in
      adds_wider (k + 2) (k + 2 + 1) k (k + 3) n 0 (same_times (k + 2) n + 0) (omega arith) ge
      (adds_as (k + 2) (k + 2 + 1) n 0 (same_times (k + 2) n) 0 (same_times (k + 2) n + 0) refl (omega arith) (adds_one (k + 2) n))
  way_times k x (Way.Elements a size) =
      let wide : List Instr = widening k a in
      let first : Adds k (k + 1) n 0 (made_times n wide) = widening_by k a (is_wide a.ty) (Instr.Cast k CastOp.Sext false a (int 64) ∷ []) (omega arith) in
      let le : k + 1 + 1 ≤ k + 2 = omega arith in
      let second : Adds (k + 1) (k + 2) n 0 (same_times (k + 1) n) = adds_wider (k + 1) (k + 1 + 1) (k + 1) (k + 2) n 0 (same_times (k + 1) n) (omega arith) le (adds_one (k + 1) n) in
      let ge : k + 2 + 1 ≤ k + 3 = omega arith in
      let third : Adds (k + 2) (k + 3) n 0 (same_times (k + 2) n) = adds_wider (k + 2) (k + 2 + 1) (k + 2) (k + 3) n 0 (same_times (k + 2) n) (omega arith) ge (adds_one (k + 2) n) in
      let two : Adds (k + 1) (k + 3) n 0 (same_times (k + 1) n + same_times (k + 2) n) = adds_joined (k + 1) (k + 2) (k + 3) n 0 0 (same_times (k + 1) n) (same_times (k + 2) n) (omega arith) (omega arith) second third in
      lists_joined k (k + 1) (k + 3) 0 0 wide (on_number (k + 1) BinOp.Mul (widened k a) (Operand.Number (pos size)) ∷ on_number (k + 2) BinOp.Add x (Operand.Local (k + 1)) ∷ []) (omega arith) (omega arith) first (adds_as (k + 1) (k + 3) n 0 (same_times (k + 1) n + same_times (k + 2) n) 0 (same_times (k + 1) n + (same_times (k + 2) n + 0)) refl (omega arith) two)

  sums_low : (k : ℕ) (ways : List Way) → k ≤ sum_next k ways
  sums_low k [] = omega arith
  sums_low k (x ∷ xs) = let rest : k + 3 ≤ sum_next (k + 3) xs = sums_low (k + 3) xs in omega (arith, rest)

  sums_times : (k : ℕ) (x : Operand) (ways : List Way) → Adds k (sum_next k ways) n 0 (made_times n (sum_instrs k x ways))
  sums_times k x [] = adds_none k k n 0 0 refl
  sums_times k x (way ∷ ways) =
      lists_joined k (k + 3) (sum_next (k + 3) ways) 0 0 (way_instrs k x way) (sum_instrs (k + 3) (Operand.Local (k + 2)) ways) (omega arith) (sums_low (k + 3) ways)
      (way_times k x way) (sums_times (k + 3) (Operand.Local (k + 2)) ways)

  start_times : (k : ℕ) (from : Option ℕ) → Adds k (k + 1) n 0 (made_times n (start_instrs k from))
  start_times k None = adds_none k (k + 1) n 0 0 refl
  start_times k (Some c) = adds_as k (k + 1) n 0 (same_times k n) 0 (same_times k n + 0) refl (omega arith) (adds_one k n)

  distance_times : (k : ℕ) (from : Option ℕ) (cell : ℕ) (ways : List Way) → Adds k (distance_next k ways) n 0 (made_times n (distance_instrs k from cell ways))
  distance_times k from cell ways =
      let start : List Instr = start_instrs k from in
      let sum : List Instr = sum_instrs (k + 1) (start_value k from) ways in
      let both : Adds k (distance_next k ways) n 0 (made_times n (start ++ sum)) = lists_joined k (k + 1) (sum_next (k + 1) ways) 0 0 start sum (omega arith) (sums_low (k + 1) ways) (start_times k from) (sums_times (k + 1) (start_value k from) ways) in
      adds_as k (distance_next k ways) n 0 (made_times n (start ++ sum)) 0 (made_times n (distance_instrs k from cell ways)) refl (let all = made_both n (start ++ sum) (Instr.Store (record { ty = int 64; value = sum_value (k + 1) (start_value k from) ways }) (Operand.Local cell) 8 ∷ []) in omega (arith, all)) both

  into_times : (m : Module) (from : Option ℕ) (k : ℕ) (o : Option ℕ) (ty : Ty) (args : List Arg) → Adds k (after_distance_into m k o ty args) n 0 (made_times n (distance_into m from k o ty args))
  into_times m from k None ty args = adds_none k k n 0 0 refl
  into_times m from k (Some c) ty args = distance_times k from c (ways_of m ty args)

  behind_times : (m : Module) (p : Plan) (k : ℕ) (i : Instr) → Adds k (after_distance m p k i) n 0 (made_times n (distance_behind m p k i))
  behind_times m p k (Instr.Gep r inbounds ty base args) = into_times m (distance_from p r) k (entry p.cells r) ty args
  behind_times m p k _ = adds_none k k n 0 0 refl

  -- ---- instructions with what is written around them

  one_low : (m : Module) (p : Plan) (k : ℕ) (i : Instr) → k ≤ after_one m p k i
  one_low m p k i = behind_low m p k (after_saved k (save_row p i)) i (saved_low k k (save_row p i) (omega arith))

  pub written_low : (m : Module) (p : Plan) (k : ℕ) (is : List Instr) → k ≤ after_instrs m p k is
  written_low m p k [] = omega arith
  written_low m p k (i ∷ is) =
      let here : k ≤ after_one m p k i = one_low m p k i in
      let rest : after_one m p k i ≤ after_instrs m p (after_one m p k i) is = written_low m p (after_one m p k i) is in
      omega (arith, here, rest)

  one_times : (m : Module) (p : Plan) (k : ℕ) (i : Instr) → Adds k (after_one m p k i) n (times n (made_by i)) (made_times n (written_one m p k i))
  one_times m p k i =
      let saved : List Instr = saved_values p.kept k (save_row p i) in
      let mid : ℕ = after_saved k (save_row p i) in
      let store : List Instr = stored_result p (result_of i) in
      let here : made_times n (i ∷ store) ≡ times n (made_by i) = (let one = made_one n i store in let none = result_stored p (result_of i) in omega (arith, one, none)) in
      let first : Adds k mid n (times n (made_by i)) (made_times n (saved ++ (i ∷ store))) =
      adds_as k mid n (0 + times n (made_by i)) (made_times n (saved ++ (i ∷ store))) (times n (made_by i)) (made_times n (saved ++ (i ∷ store))) (omega arith) refl (list_behind k mid 0 (times n (made_by i)) saved (i ∷ store) here (saved_times p.kept k (save_row p i))) in
      adds_as k (after_one m p k i) n (times n (made_by i) + 0) (made_times n (written_one m p k i)) (times n (made_by i)) (made_times n (written_one m p k i)) (omega arith) refl
      (lists_joined k mid (after_one m p k i) (times n (made_by i)) 0 (saved ++ (i ∷ store)) (distance_behind m p mid i) (saved_low k k (save_row p i) (omega arith)) (behind_low m p mid mid i (omega arith)) first (behind_times m p mid i))

  pub written_times : (m : Module) (p : Plan) (k : ℕ) (is : List Instr) → Adds k (after_instrs m p k is) n (made_times n is) (made_times n (written_instrs m p k is))
  written_times m p k [] = adds_none k k n 0 0 refl
  written_times m p k (i ∷ is) =
      let next : ℕ = after_one m p k i in
      adds_as k (after_instrs m p next is) n (times n (made_by i) + made_times n is) (made_times n (written_instrs m p k (i ∷ is))) (made_times n (i ∷ is)) (made_times n (written_instrs m p k (i ∷ is))) (made_one n i is) refl
      (lists_joined k next (after_instrs m p next is) (times n (made_by i)) (made_times n is) (written_one m p k i) (written_instrs m p next is) (one_low m p k i) (written_low m p next is) (one_times m p k i) (written_times m p next is))

  -- ---- instructions with what is fetched before them

  module _ (t : List (Option Fetch)) where
    by_low : (k : ℕ) (o : Option Fetch) → k ≤ next_by k o
    by_low k None = omega arith
    by_low k (Some x) = omega arith

    pub operands_rise : (k : ℕ) (xs : List Operand) → k ≤ next_after_all t k xs
    operands_rise k [] = omega arith
    operands_rise k (x ∷ xs) =
        let here : k ≤ next_after t k x = by_low k (fetch_of t x) in
        let rest : next_after t k x ≤ next_after_all t (next_after t k x) xs = operands_rise (next_after t k x) xs in
        omega (arith, here, rest)

    fetch_times : (k : ℕ) (x : Fetch) → made_times n (fetch_into k x ∷ []) ≡ same_times k n
    fetch_times k (Fetch.Load ty cell) = omega arith
    fetch_times k (Fetch.Address base distance) = omega arith

    by_times : (k : ℕ) (o : Option Fetch) → Adds k (next_by k o) n 0 (made_times n (fetches_by k o))
    by_times k None = adds_none k k n 0 0 refl
    by_times k (Some x) = adds_as k (k + 1) n 0 (same_times k n) 0 (made_times n (fetch_into k x ∷ [])) refl (fetch_times k x) (adds_one k n)

    pub fetches_times : (k : ℕ) (xs : List Operand) → Adds k (next_after_all t k xs) n 0 (made_times n (fetches_of_all t k xs))
    fetches_times k [] = adds_none k k n 0 0 refl
    fetches_times k (x ∷ xs) =
        let next : ℕ = next_after t k x in
        lists_joined k next (next_after_all t next xs) 0 0 (fetches_of t k x) (fetches_of_all t next xs) (by_low k (fetch_of t x)) (operands_rise next xs) (by_times k (fetch_of t x)) (fetches_times next xs)

    pub instrs_rise : (k : ℕ) (is : List Instr) → k ≤ next_after_instrs t k is
    instrs_rise k [] = omega arith
    instrs_rise k (i ∷ is) =
        let here : k ≤ next_after_instr t k i = operands_rise k (instr_operands i) in
        let rest : next_after_instr t k i ≤ next_after_instrs t (next_after_instr t k i) is = instrs_rise (next_after_instr t k i) is in
        omega (arith, here, rest)

    pub phis_rise : (k : ℕ) (ps : List Phi) → k ≤ next_after_phis t k ps
    phis_rise k [] = omega arith
    phis_rise k (p ∷ ps) =
        let here : k ≤ next_after_phi t k p = operands_rise k (map (λ i. i.value) p.incoming) in
        let rest : next_after_phi t k p ≤ next_after_phis t (next_after_phi t k p) ps = phis_rise (next_after_phi t k p) ps in
        omega (arith, here, rest)

    pub by_phis_rise : (k : ℕ) (bs : List Block) → k ≤ next_after_phis_by t k bs
    by_phis_rise k [] = omega arith
    by_phis_rise k (b ∷ bs) =
        let here : k ≤ next_after_phis t k b.phis = phis_rise k b.phis in
        let rest : next_after_phis t k b.phis ≤ next_after_phis_by t (next_after_phis t k b.phis) bs = by_phis_rise (next_after_phis t k b.phis) bs in
        omega (arith, here, rest)

    fetched_one_times : (k : ℕ) (i : Instr) → Adds k (next_after_instr t k i) n (times n (made_by i)) (made_times n (fetched_instr t k i))
    fetched_one_times k i =
        let j : Instr = with_fetched t k i in
        let here : List Instr = fetches_of_all t k (instr_operands i) in
        let same : times n (made_by j) ≡ times n (made_by i) = ap (λ (o : Option ℕ). times n (option_to_list o)) (same_made t k i) in
        let one : made_times n (j ∷ []) ≡ times n (made_by i) = (let both = made_one n j [] in omega (arith, both, same)) in
        adds_as k (next_after_instr t k i) n (0 + times n (made_by i)) (made_times n (fetched_instr t k i)) (times n (made_by i)) (made_times n (fetched_instr t k i)) (omega arith) refl
        (list_behind k (next_after_instr t k i) 0 (times n (made_by i)) here (j ∷ []) one (fetches_times k (instr_operands i)))

    pub fetched_times : (k : ℕ) (is : List Instr) → Adds k (next_after_instrs t k is) n (made_times n is) (made_times n (fetched_instrs t k is))
    fetched_times k [] = adds_none k k n 0 0 refl
    fetched_times k (i ∷ is) =
        let next : ℕ = next_after_instr t k i in
        adds_as k (next_after_instrs t next is) n (times n (made_by i) + made_times n is) (made_times n (fetched_instrs t k (i ∷ is))) (made_times n (i ∷ is)) (made_times n (fetched_instrs t k (i ∷ is))) (made_one n i is) refl
        (lists_joined k next (next_after_instrs t next is) (times n (made_by i)) (made_times n is) (fetched_instr t k i) (fetched_instrs t next is) (operands_rise k (instr_operands i)) (instrs_rise next is) (fetched_one_times k i) (fetched_times next is))
