-- How long the parts are that an instruction becomes.
use Rattle.std.proofs.Common.{◌≡◌, ◌⊎◌, inl, inr, ℕ, suc, ◌+◌, ◌*◌, ◌≤◌, Bool, true, false, List, [], ◌∷◌, ◌++◌, length, refl, ap, arith}
use Rattle.std.proofs.lemmas.List.{length-append}
use Rattle.std.specs.Prelude.{None, Option, Some, if◌then◌else◌, option_to_list, pos, slice_get}
use Rattle.pass_frames_proof.specs.ir_model.declared.instr.Instr.{Instr}
use Rattle.pass_frames_proof.specs.ir_model.declared.operand.Arg.{Arg}
use Rattle.pass_frames_proof.specs.ir_model.declared.operand.Callee.{Callee}
use Rattle.pass_frames_proof.specs.ir_model.declared.operand.Intrinsic.{Intrinsic}
use Rattle.pass_frames_proof.specs.ir_model.declared.operand.Operand.{Operand}
use Rattle.pass_frames_proof.specs.ir_base.declared.ops.BinOp.{BinOp}
use Rattle.pass_frames_proof.specs.ir_base.declared.ops.CastOp.{CastOp}
use Rattle.pass_frames_proof.specs.ir_model.Layout.{unnamed}
use Rattle.pass_frames_proof.specs.ir_parts.Contents.{arg_operands, instr_operands}
use Rattle.pass_frames_proof.specs.pass_addresses.Placing.{stays, without_promise_of}
use Rattle.pass_frames_proof.specs.pass_cells.Moves.{again_one, again_values, address_again, load_from, saved_one, saved_values, store_to}
use Rattle.pass_frames_proof.specs.pass_cells.Written.{distance_into, stored, stored_at, stored_one, stored_params, stored_phis, stored_result}
use Rattle.pass_frames_proof.specs.pass_cells.declared.plan.KeptValue.{KeptValue}
use Rattle.pass_frames_proof.specs.pass_cells.declared.plan.Plan.{Plan}
use Rattle.pass_frames_proof.specs.pass_cells.Kept.{entry}
use Rattle.pass_frames_proof.specs.pass_copies.BeginCopies.{begin_copies, copy, put, puts}
use Rattle.pass_frames_proof.specs.pass_copies.declared.slot.EarlySlot.{EarlySlot}
use Rattle.pass_frames_proof.specs.pass_distances.Sums.{is_wide, on_number, start_instrs, start_value, sum_instrs, sum_value, way_instrs, widened, widening}
use Rattle.pass_frames_proof.specs.pass_distances.Ways.{inner_type, inner_ways, ways_of}
use Rattle.pass_frames_proof.specs.pass_distances.declared.way.Way.{Way}
use Rattle.pass_frames_proof.specs.pass_fetch.Fetching.{fetch_of, fetches_by, fetches_of, fetches_of_all, next_after}
use Rattle.pass_frames_proof.specs.pass_fetch.Instrs.{with_fetched}
use Rattle.pass_frames_proof.specs.pass_fetch.declared.fetch.Fetch.{Fetch}
use Rattle.pass_frames_prices.proofs.bounds.Lengths.{fetches_few, fetches_same, one_few, only_short}
use Rattle.pass_frames_proof.proofs.layers.Grown.{both_becomes, both_grown}
use Rattle.pass_frames_proof.specs.Layers.{Layer, becomes, both, each, grown, only}
use Rattle.pass_frames_proof.specs.Passes.{fetching, unmarked_at}
use Rattle.pass_frames_proof.specs.ir_model.Ty.{Ty, int, ptr}
use Rattle.pass_frames_proof.specs.ir_model.declared.module.Block.{Block}
use Rattle.pass_frames_proof.specs.ir_model.declared.instr.Phi.{Phi}
use Rattle.pass_frames_proof.specs.ir_model.declared.module.Module.{Module}
use Rattle.pass_frames_proof.specs.ir_model.declared.module.Param.{Param}
use Rattle.pass_frames_proof.specs.pass_proofs.fetch.rules.Fetches.{AreUnfetched}
use Rattle.pass_frames_proof.specs.run_laws.changed.Changed.{Each}

-- what a distance costs more where it is loaded again, and what a kept value costs there
abbrev pub slots_more : Option ℕ → ℕ
slots_more None = 0
slots_more (Some slot) = 2

abbrev pub again_more : Option KeptValue → ℕ
again_more None = 0
again_more (Some k) = 3 + slots_more k.slot

abbrev pub row_more : List KeptValue → List ℕ → ℕ
row_more kept [] = 0
row_more kept (at ∷ row) = again_more (slice_get kept at) + row_more kept row

-- ---- addresses

-- an instruction with the addresses that it takes
abbrev pub weight : List (Option Fetch) → Instr → ℕ
weight t i = 1 + length (fetches_of_all t 0 (instr_operands i))

abbrev pub weights : List (Option Fetch) → List Instr → ℕ
weights t [] = 0
weights t (i ∷ is) = weight t i + weights t is

pub weights_append : (t : List (Option Fetch)) (is js : List Instr)
    → weights t (is ++ js) ≡ weights t is + weights t js
weights_append t [] js = omega arith
weights_append t (i ∷ is) js = let a = weights_append t is js in omega (arith, a)

-- a layer that fetches, and then leaves what passes a test
module _ (t : List (Option Fetch)) (ends : List Instr) (first : ℕ) (b : Block) (test : Instr → Bool) where
  abbrev L : Layer (ℕ × Unit {0})
  L = both (fetching t ends first b) (only test)

  pub one_short : (n : ℕ) (u : Unit {0}) (i : Instr) → length (becomes L (n, u) i) ≤ weight t i
  one_short n u i =
      let line : List Instr = fetches_of_all t n (instr_operands i) ++ (with_fetched t n i ∷ []) in
      let e : length (becomes L (n, u) i) ≡ length (grown (only test) u line) =
      ap length (both_becomes (fetching t ends first b) (only test) n u i) in
      let a = only_short test u line in
      let f = length-append (fetches_of_all t n (instr_operands i)) (with_fetched t n i ∷ []) in
      let g = fetches_same t n 0 (instr_operands i) in
      omega (arith, e, a, f, g)

  pub line_short : (s : ℕ × Unit {0}) (is : List Instr) → length (grown L s is) ≤ weights t is
  line_short s [] = omega arith
  line_short s (i ∷ is) =
      let a = one_short s.0 s.1 i in
      let b = line_short (L.after s i) is in
      let e = length-append (becomes L s i) (grown L (L.after s i) is) in
      omega (arith, a, b, e)

-- ---- an instruction without its marker or promise

pub unmarked_one_is : (flags : List Bool) (i : Instr)
    → (grown (unmarked_at flags) (tt, tt) (i ∷ []) ≡ [])
    ⊎ (grown (unmarked_at flags) (tt, tt) (i ∷ []) ≡ without_promise_of i ∷ [])
unmarked_one_is flags i =
    on (stays flags i) (both_grown (only (stays flags)) (each without_promise_of) tt tt (i ∷ []))
  where
    on : (b : Bool)
        → grown (unmarked_at flags) (tt, tt) (i ∷ [])
        ≡ grown (each without_promise_of) tt (([] ++ (option_to_list (if b then Some i else None) ++ [])) ++ [])
        → (grown (unmarked_at flags) (tt, tt) (i ∷ []) ≡ [])
        ⊎ (grown (unmarked_at flags) (tt, tt) (i ∷ []) ≡ without_promise_of i ∷ [])
    on true e = inr e
    on false e = inl e

module _ (t : List (Option Fetch)) where
  args_few : (n : ℕ) (a p : Arg) (args : List Arg)
      → length (fetches_of_all t n (a.value ∷ Operand.Null ∷ arg_operands args))
      ≤ length (fetches_of_all t n (a.value ∷ p.value ∷ arg_operands args))
  args_few n a p args =
      let m : ℕ = next_after t n a.value in
      let k : ℕ = next_after t m p.value in
      let ops : List Operand = arg_operands args in
      let e = length-append (fetches_of t n a.value) (fetches_of_all t m ops) in
      let f = length-append (fetches_of t n a.value) (fetches_of t m p.value ++ fetches_of_all t k ops) in
      let g = length-append (fetches_of t m p.value) (fetches_of_all t k ops) in
      let h = fetches_same t m k ops in
      omega (arith, e, f, g, h)

  pub promise_few : (i : Instr) → weight t (without_promise_of i) ≤ weight t i
  promise_few (Instr.Call r must_tail ty (Callee.Intrinsic Intrinsic.CoroId) (a ∷ p ∷ args)) =
      let h = args_few 0 a p args in omega (arith, h)
  promise_few (Instr.Call r must_tail ty (Callee.Intrinsic Intrinsic.CoroId) []) = omega arith
  promise_few (Instr.Call r must_tail ty (Callee.Intrinsic Intrinsic.CoroId) (a ∷ [])) = omega arith
  promise_few i = omega arith

-- ---- moves between cells and fields

-- no address is taken
abbrev pub IsFree : List (Option Fetch) → ℕ → Type 0
IsFree t v = fetch_of t (Operand.Local v) ≡ None

free_none : (t : List (Option Fetch)) (n v : ℕ) → IsFree t v → length (fetches_by n (fetch_of t (Operand.Local v))) ≡ 0
free_none t n v e = ap (λ (o : Option Fetch). length (fetches_by n o)) e

module _ (t : List (Option Fetch)) where
  load_weight : (n cell : ℕ) (ty : Ty) → IsFree t cell → weight t (load_from n ty cell) ≤ 1
  load_weight n cell ty free =
      let e = length-append (fetches_by 0 (fetch_of t (Operand.Local cell))) [] in
      let f = free_none t 0 cell free in
      omega (arith, e, f)

  any_load_weight : (n field : ℕ) (ty : Ty) → weight t (load_from n ty field) ≤ 2
  any_load_weight n field ty = let a = fetches_few t 0 (Operand.Local field ∷ []) in omega (arith, a)

  store_weight : (v cell : ℕ) (ty : Ty) → IsFree t v → weight t (store_to ty v cell) ≤ 2
  store_weight v cell ty free =
      let k : ℕ = next_after t 0 (Operand.Local v) in
      let e = length-append (fetches_by 0 (fetch_of t (Operand.Local v)))
      (fetches_of_all t k (Operand.Local cell ∷ [])) in
      let f = free_none t 0 v free in
      let a = fetches_few t k (Operand.Local cell ∷ []) in
      omega (arith, e, f, a)

  pub cell_weight : (v cell : ℕ) (ty : Ty) → IsFree t v → IsFree t cell → weight t (store_to ty v cell) ≤ 1
  cell_weight v cell ty free free' =
      let k : ℕ = next_after t 0 (Operand.Local v) in
      let e = length-append (fetches_by 0 (fetch_of t (Operand.Local v)))
      (fetches_of_all t k (Operand.Local cell ∷ [])) in
      let f = free_none t 0 v free in
      let g = length-append (fetches_by k (fetch_of t (Operand.Local cell))) [] in
      let h = free_none t k cell free' in
      omega (arith, e, f, g, h)

  module _ (far : ℕ) (new : (v : ℕ) → far ≤ v → IsFree t v) (kept : List KeptValue)
      (fills : (at : ℕ) (k : KeptValue) → slice_get kept at ≡ Some k → IsFree t k.field_cell) where
    saved_weight : (n at : ℕ) (o : Option KeptValue) → far ≤ n → slice_get kept at ≡ o
        → weights t (saved_one n o) ≤ 3
    saved_weight n at None low e = omega arith
    saved_weight n at (Some k) low e =
        let a = load_weight n k.field_cell k.field_ty (fills at k e) in
        let b = store_weight n k.field k.field_ty (new n low) in
        omega (arith, a, b)

    pub saved_weights : (n : ℕ) (row : List ℕ) → far ≤ n → weights t (saved_values kept n row) ≤ 3 * length row
    saved_weights n [] low = omega arith
    saved_weights n (at ∷ row) low =
        let a = saved_weight n at (slice_get kept at) low refl in
        let b = saved_weights (n + 1) row (omega (arith, low)) in
        let e = weights_append t (saved_one n (slice_get kept at)) (saved_values kept (n + 1) row) in
        omega (arith, a, b, e)

  -- ---- copies at begin, and addresses that are put into cells

  -- no temporary of these slots, and no cell, has an address in the frame
  abbrev pub AreFree : List EarlySlot → Type 0
  AreFree [] = Unit {0}
  AreFree (s ∷ zs) = (IsFree t s.temporary × IsFree t s.cell) × AreFree zs

  put_weight : (address cell : ℕ) → IsFree t cell → weight t (put address cell) ≤ 2
  put_weight address cell free =
      let k : ℕ = next_after t 0 (Operand.Local address) in
      let e = length-append (fetches_by 0 (fetch_of t (Operand.Local address)))
      (fetches_of_all t k (Operand.Local cell ∷ [])) in
      let f = one_few 0 (fetch_of t (Operand.Local address)) in
      let g = length-append (fetches_by k (fetch_of t (Operand.Local cell))) [] in
      let h = free_none t k cell free in
      omega (arith, e, f, g, h)

  copy_weight : (s : EarlySlot) → IsFree t s.temporary → weight t (copy s) ≤ 2
  copy_weight s free =
      let k : ℕ = next_after t 0 (Operand.Local s.slot) in
      let e = length-append (fetches_by 0 (fetch_of t (Operand.Local s.slot)))
      (fetches_by k (fetch_of t (Operand.Local s.temporary)) ++ []) in
      let f = one_few 0 (fetch_of t (Operand.Local s.slot)) in
      let g = length-append (fetches_by k (fetch_of t (Operand.Local s.temporary))) [] in
      let h = free_none t k s.temporary free in
      omega (arith, e, f, g, h)

  pub copies_weights : (ss : List EarlySlot) → AreFree ss → weights t (begin_copies ss) ≤ 4 * length ss
  copies_weights [] h = omega arith
  copies_weights (s ∷ ss) h =
      let a = copy_weight s h.0.0 in
      let b = put_weight s.slot s.cell h.0.1 in
      let c = copies_weights ss h.1 in
      omega (arith, a, b, c)

  pub puts_weights : (ss : List EarlySlot) → AreFree ss → weights t (puts ss) ≤ 2 * length ss
  puts_weights [] h = omega arith
  puts_weights (s ∷ ss) h =
      let a = put_weight s.slot s.cell h.0.1 in
      let b = puts_weights ss h.1 in
      omega (arith, a, b)

  -- ---- where a coroutine goes on: two more for an address that is made from a distance

  module _ (far : ℕ) (new : (v : ℕ) → far ≤ v → IsFree t v) (kept : List KeptValue)
      (fills : (at : ℕ) (k : KeptValue) → slice_get kept at ≡ Some k
      → (IsFree t k.field_cell × IsFree t k.cell)
      × ((slot : ℕ) → k.slot ≡ Some slot → IsFree t slot)) where
    address_weight : (n cell : ℕ) (o : Option ℕ) → far ≤ n → IsFree t cell
        → ((slot : ℕ) → o ≡ Some slot → IsFree t slot) → weights t (address_again n cell o) ≤ slots_more o
    address_weight n cell None low free h = omega arith
    address_weight n cell (Some slot) low free h =
        let k : ℕ = next_after t 0 (Operand.Local slot) in
        let e = length-append (fetches_by 0 (fetch_of t (Operand.Local slot)))
        (fetches_by k (fetch_of t (Operand.Local n)) ++ []) in
        let f = free_none t 0 slot (h slot refl) in
        let g = length-append (fetches_by k (fetch_of t (Operand.Local n))) [] in
        let i = free_none t k n (new n low) in
        let a = cell_weight (n + 1) cell ptr (new (n + 1) (omega (arith, low))) free in
        omega (arith, e, f, g, i, a)

    again_weight : (n at : ℕ) (o : Option KeptValue) → far ≤ n → slice_get kept at ≡ o
        → weights t (again_one n o) ≤ again_more o
    again_weight n at None low e = omega arith
    again_weight n at (Some k) low e =
        let h = fills at k e in
        let a = any_load_weight n k.field k.field_ty in
        let b = cell_weight n k.field_cell k.field_ty (new n low) h.0.0 in
        let c = address_weight n k.cell k.slot low h.0.1 h.1 in
        omega (arith, a, b, c)

    pub again_weights : (n : ℕ) (row : List ℕ) → far ≤ n
        → weights t (again_values kept n row) ≤ row_more kept row
    again_weights n [] low = omega arith
    again_weights n (at ∷ row) low =
        let a = again_weight n at (slice_get kept at) low refl in
        let b = again_weights (n + 2) row (omega (arith, low)) in
        let e = weights_append t (again_one n (slice_get kept at)) (again_values kept (n + 2) row) in
        omega (arith, a, b, e)

-- ---- distances

inner_length : (m : Module) (ty : Ty) (args : List Arg) → length (inner_ways m ty args) ≡ length args
inner_length m ty [] = refl
inner_length m ty (a ∷ args) = ap suc (inner_length m (inner_type (unnamed m ty) a) args)

ways_length : (m : Module) (ty : Ty) (args : List Arg) → length (ways_of m ty args) ≡ length args
ways_length m ty [] = refl
ways_length m ty (a ∷ args) = ap suc (inner_length m ty args)

wide_short : (n : ℕ) (a : Arg) → length (widening n a) ≤ 1
wide_short n a = on (is_wide a.ty)
  where
    on : (b : Bool) → length (if b then [] else Instr.Cast n CastOp.Sext false a (int 64) ∷ []) ≤ 1
    on true = omega arith
    on false = omega arith

abbrev way_rest : ℕ → Operand → Arg → ℕ → List Instr
way_rest n x a size =
    on_number (n + 1) BinOp.Mul (widened n a) (Operand.Number (pos size))
    ∷ on_number (n + 2) BinOp.Add x (Operand.Local (n + 1))
    ∷ []

way_short : (n : ℕ) (x : Operand) (w : Way) → length (way_instrs n x w) ≤ 3
way_short n x (Way.Bytes bytes) = omega arith
way_short n x (Way.Elements a size) =
    let e = length-append (widening n a) (way_rest n x a size) in
    let f = wide_short n a in
    omega (arith, e, f)

sum_short : (n : ℕ) (x : Operand) (ws : List Way) → length (sum_instrs n x ws) ≤ 3 * length ws
sum_short n x [] = omega arith
sum_short n x (w ∷ ws) =
    let a = way_short n x w in
    let b = sum_short (n + 3) (Operand.Local (n + 2)) ws in
    let e = length-append (way_instrs n x w) (sum_instrs (n + 3) (Operand.Local (n + 2)) ws) in
    omega (arith, a, b, e)

start_short : (n : ℕ) (o : Option ℕ) → length (start_instrs n o) ≤ 1
start_short n None = omega arith
start_short n (Some cell) = omega arith

-- where it has a cell
pub distance_short : (m : Module) (from : Option ℕ) (n : ℕ) (o : Option ℕ) (ty : Ty) (args : List Arg)
    → length (distance_into m from n o ty args) ≤ 3 * length args + 2
distance_short m from n None ty args = omega arith
distance_short m from n (Some cell) ty args =
    let ws : List Way = ways_of m ty args in
    let x : Operand = start_value n from in
    let last : List Instr =
    Instr.Store (record { ty = int 64; value = sum_value (n + 1) x ws }) (Operand.Local cell) 8 ∷ [] in
    let a = start_short n from in
    let b = sum_short (n + 1) x ws in
    let c = ways_length m ty args in
    let e = length-append (start_instrs n from ++ sum_instrs (n + 1) x ws) last in
    let f = length-append (start_instrs n from) (sum_instrs (n + 1) x ws) in
    let g : length (distance_into m from n (Some cell) ty args)
    ≡ length ((start_instrs n from ++ sum_instrs (n + 1) x ws) ++ last) = refl in
    omega (arith, a, b, c, e, f, g)

-- ---- stores into cells

one_stored : (v : ℕ) (o : Option KeptValue) → length (stored_one v o) ≤ 1
one_stored v None = omega arith
one_stored v (Some k) = omega arith

stored_short : (kept : List KeptValue) (v : ℕ) (o : Option ℕ) → length (stored_at kept v o) ≤ 1
stored_short kept v None = omega arith
stored_short kept v (Some at) = one_stored v (slice_get kept at)

pub result_short : (p : Plan) (o : Option ℕ) → length (stored_result p o) ≤ 1
result_short p None = omega arith
result_short p (Some v) = stored_short p.kept v (entry p.places v)

pub value_short : (p : Plan) (v : ℕ) → length (stored p v) ≤ 1
value_short p v = stored_short p.kept v (entry p.places v)

pub phis_short : (p : Plan) (xs : List Phi) → length (stored_phis p xs) ≤ length xs
phis_short p [] = omega arith
phis_short p (x ∷ xs) =
    let a = value_short p x.result in
    let b = phis_short p xs in
    let e = length-append (stored p x.result) (stored_phis p xs) in
    omega (arith, a, b, e)

pub params_short : (p : Plan) (xs : List Param) → length (stored_params p xs) ≤ length xs
params_short p [] = omega arith
params_short p (x ∷ xs) =
    let a = value_short p x.name in
    let b = params_short p xs in
    let e = length-append (stored p x.name) (stored_params p xs) in
    omega (arith, a, b, e)

-- ---- what takes no address

module _ (t : List (Option Fetch)) where
  none_fetched : (n : ℕ) (xs : List Operand) → AreUnfetched t xs → length (fetches_of_all t n xs) ≡ 0
  none_fetched n [] h = refl
  none_fetched n (x ∷ xs) h =
      let e = length-append (fetches_of t n x) (fetches_of_all t (next_after t n x) xs) in
      let f : length (fetches_of t n x) ≡ 0 = ap (λ (o : Option Fetch). length (fetches_by n o)) h.0 in
      let g = none_fetched (next_after t n x) xs h.1 in
      omega (arith, e, f, g)

  pub all_free : (is : List Instr) → Each (λ (i : Instr). AreUnfetched t (instr_operands i)) is
      → weights t is ≡ length is
  all_free [] h = refl
  all_free (i ∷ is) h =
      let a = none_fetched 0 (instr_operands i) h.0 in
      let b = all_free is h.1 in
      omega (arith, a, b)
