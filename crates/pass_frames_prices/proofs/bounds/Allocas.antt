-- The allocas among what is woven in: fetches, moves and distances have none.
use Rattle.std.proofs.Common.{◌≡◌, ℕ, ◌+◌, Bool, true, false, List, [], ◌∷◌, ◌++◌, refl, arith}
use Rattle.std.specs.Prelude.{None, Option, Some, if◌then◌else◌, pos, slice_get}
use Rattle.pass_frames_proof.specs.ir_base.declared.ops.BinOp.{BinOp}
use Rattle.pass_frames_proof.specs.ir_base.declared.ops.CastOp.{CastOp}
use Rattle.pass_frames_proof.specs.ir_model.Ty.{Ty, int}
use Rattle.pass_frames_proof.specs.ir_model.declared.instr.Instr.{Instr}
use Rattle.pass_frames_proof.specs.ir_model.declared.instr.Phi.{Phi}
use Rattle.pass_frames_proof.specs.ir_model.declared.module.Module.{Module}
use Rattle.pass_frames_proof.specs.ir_model.declared.module.Param.{Param}
use Rattle.pass_frames_proof.specs.ir_model.declared.operand.Arg.{Arg}
use Rattle.pass_frames_proof.specs.ir_model.declared.operand.Operand.{Operand}
use Rattle.pass_frames_proof.specs.ir_parts.Contents.{instr_operands, result_of}
use Rattle.pass_frames_proof.specs.pass_cells.Kept.{entry}
use Rattle.pass_frames_proof.specs.pass_cells.Moves.{address_again, after_saved, again_one, again_values, saved_one, saved_values}
use Rattle.pass_frames_proof.specs.pass_cells.Written.{after_one, distance_behind, distance_from, distance_into, save_row, stored, stored_at, stored_one, stored_params, stored_phis, stored_result, written_instrs, written_one}
use Rattle.pass_frames_proof.specs.pass_cells.declared.plan.KeptValue.{KeptValue}
use Rattle.pass_frames_proof.specs.pass_cells.declared.plan.Plan.{Plan}
use Rattle.pass_frames_proof.specs.pass_distances.Sums.{is_wide, on_number, start_instrs, start_value, sum_instrs, sum_value, way_instrs, widened, widening}
use Rattle.pass_frames_proof.specs.pass_distances.Ways.{ways_of}
use Rattle.pass_frames_proof.specs.pass_distances.declared.way.Way.{Way}
use Rattle.pass_frames_proof.specs.pass_fetch.Fetching.{fetch_of, fetches_by, fetches_of, fetches_of_all, next_after}
use Rattle.pass_frames_proof.specs.pass_fetch.Instrs.{fetched_instrs, next_after_instr, with_fetched}
use Rattle.pass_frames_proof.specs.pass_fetch.declared.fetch.Fetch.{Fetch}
use Rattle.pass_frames_proof.specs.pass_front.Front.{is_no_alloca}
use Rattle.pass_frames_proof.specs.run_laws.changed.Changed.{Each}

-- the allocas of a list, each with the weight of its name
module _ (w : ℕ → ℕ) where
  abbrev pub one : Instr → ℕ
  one (Instr.Alloca r ty align) = w r
  one _ = 0

  abbrev pub many : List Instr → ℕ
  many [] = 0
  many (i ∷ is) = one i + many is

  pub many_append : (is js : List Instr) → many (is ++ js) ≡ many is + many js
  many_append [] js = omega arith
  many_append (i ∷ is) js = let a = many_append is js in omega (arith, a)

  -- what is no alloca
  pub none : (is : List Instr) → Each (λ (i : Instr). is_no_alloca i ≡ true) is → many is ≡ 0
  none [] h = refl
  none (Instr.Alloca r ty align ∷ is) h = let t : false ≡ true = h.0 in absurd (cc)
  none (_ ∷ is) h = let a = none is h.1 in omega (arith, a)

  -- ---- fetches

  pub fetch_none : (n : ℕ) (o : Option Fetch) → many (fetches_by n o) ≡ 0
  fetch_none n None = refl
  fetch_none n (Some (Fetch.Load ty cell)) = refl
  fetch_none n (Some (Fetch.Address base distance)) = refl

  pub fetches_none : (t : List (Option Fetch)) (n : ℕ) (xs : List Operand) → many (fetches_of_all t n xs) ≡ 0
  fetches_none t n [] = refl
  fetches_none t n (x ∷ xs) =
      let a = fetch_none n (fetch_of t x) in
      let b = fetches_none t (next_after t n x) xs in
      let e = many_append (fetches_of t n x) (fetches_of_all t (next_after t n x) xs) in
      omega (arith, a, b, e)

  pub one_same : (t : List (Option Fetch)) (n : ℕ) (i : Instr) → one (with_fetched t n i) ≡ one i
  one_same t n (Instr.Binary r op flags ty a b) = refl
  one_same t n (Instr.Icmp r pred ty a b) = refl
  one_same t n (Instr.Select r c a b) = refl
  one_same t n (Instr.Cast r op nneg a to) = refl
  one_same t n (Instr.Alloca r ty align) = refl
  one_same t n (Instr.Load r ty a align) = refl
  one_same t n (Instr.Store a b align) = refl
  one_same t n (Instr.Gep r inbounds ty base indices) = refl
  one_same t n (Instr.Call r must_tail ty callee args) = refl

  pub fetched_many : (t : List (Option Fetch)) (n : ℕ) (is : List Instr) → many (fetched_instrs t n is) ≡ many is
  fetched_many t n [] = refl
  fetched_many t n (i ∷ is) =
      let a = fetches_none t n (instr_operands i) in
      let b = one_same t n i in
      let c = fetched_many t (next_after_instr t n i) is in
      let d = many_append (fetches_of_all t n (instr_operands i)) (with_fetched t n i ∷ []) in
      let e = many_append (fetches_of_all t n (instr_operands i) ++ with_fetched t n i ∷ [])
      (fetched_instrs t (next_after_instr t n i) is) in
      omega (arith, a, b, c, d, e)

  -- ---- moves

  pub saved_none : (kept : List KeptValue) (n : ℕ) (row : List ℕ) → many (saved_values kept n row) ≡ 0
  saved_none kept n [] = refl
  saved_none kept n (at ∷ row) =
      let a = on (slice_get kept at) in
      let b = saved_none kept (n + 1) row in
      let e = many_append (saved_one n (slice_get kept at)) (saved_values kept (n + 1) row) in
      omega (arith, a, b, e)
    where
      on : (o : Option KeptValue) → many (saved_one n o) ≡ 0
      on None = refl
      on (Some k) = refl

  pub again_none : (kept : List KeptValue) (n : ℕ) (row : List ℕ) → many (again_values kept n row) ≡ 0
  again_none kept n [] = refl
  again_none kept n (at ∷ row) =
      let a = on (slice_get kept at) in
      let b = again_none kept (n + 2) row in
      let e = many_append (again_one n (slice_get kept at)) (again_values kept (n + 2) row) in
      omega (arith, a, b, e)
    where
      by_slot : (cell : ℕ) (o : Option ℕ) → many (address_again n cell o) ≡ 0
      by_slot cell None = refl
      by_slot cell (Some s) = refl

      on : (o : Option KeptValue) → many (again_one n o) ≡ 0
      on None = refl
      on (Some k) = let a = by_slot k.cell k.slot in omega (arith, a)

  pub stored_none : (kept : List KeptValue) (v : ℕ) (o : Option ℕ) → many (stored_at kept v o) ≡ 0
  stored_none kept v None = refl
  stored_none kept v (Some at) = on (slice_get kept at)
    where
      on : (o : Option KeptValue) → many (stored_one v o) ≡ 0
      on None = refl
      on (Some k) = refl

  pub result_none : (p : Plan) (o : Option ℕ) → many (stored_result p o) ≡ 0
  result_none p None = refl
  result_none p (Some v) = stored_none p.kept v (entry p.places v)

  pub phis_none : (p : Plan) (xs : List Phi) → many (stored_phis p xs) ≡ 0
  phis_none p [] = refl
  phis_none p (x ∷ xs) =
      let a = stored_none p.kept x.result (entry p.places x.result) in
      let b = phis_none p xs in
      let e = many_append (stored p x.result) (stored_phis p xs) in
      omega (arith, a, b, e)

  pub params_none : (p : Plan) (xs : List Param) → many (stored_params p xs) ≡ 0
  params_none p [] = refl
  params_none p (x ∷ xs) =
      let a = stored_none p.kept x.name (entry p.places x.name) in
      let b = params_none p xs in
      let e = many_append (stored p x.name) (stored_params p xs) in
      omega (arith, a, b, e)

  -- ---- distances

  pub wide_none : (n : ℕ) (a : Arg) → many (widening n a) ≡ 0
  wide_none n a = on (is_wide a.ty)
    where
      on : (b : Bool) → many (if b then [] else Instr.Cast n CastOp.Sext false a (int 64) ∷ []) ≡ 0
      on true = refl
      on false = refl

  pub way_none : (n : ℕ) (x : Operand) (w : Way) → many (way_instrs n x w) ≡ 0
  way_none n x (Way.Bytes bytes) = refl
  way_none n x (Way.Elements a size) =
      let e = many_append (widening n a)
      (on_number (n + 1) BinOp.Mul (widened n a) (Operand.Number (pos size))
      ∷ on_number (n + 2) BinOp.Add x (Operand.Local (n + 1)) ∷ []) in
      let f = wide_none n a in
      omega (arith, e, f)

  pub sum_none : (n : ℕ) (x : Operand) (ws : List Way) → many (sum_instrs n x ws) ≡ 0
  sum_none n x [] = refl
  sum_none n x (w ∷ ws) =
      let a = way_none n x w in
      let b = sum_none (n + 3) (Operand.Local (n + 2)) ws in
      let e = many_append (way_instrs n x w) (sum_instrs (n + 3) (Operand.Local (n + 2)) ws) in
      omega (arith, a, b, e)

  pub start_none : (n : ℕ) (o : Option ℕ) → many (start_instrs n o) ≡ 0
  start_none n None = refl
  start_none n (Some cell) = refl

  pub into_none : (m : Module) (from : Option ℕ) (n : ℕ) (o : Option ℕ) (ty : Ty) (args : List Arg)
      → many (distance_into m from n o ty args) ≡ 0
  into_none m from n None ty args = refl
  into_none m from n (Some cell) ty args =
      let ws : List Way = ways_of m ty args in
      let x : Operand = start_value n from in
      let last : List Instr =
      Instr.Store (record { ty = int 64; value = sum_value (n + 1) x ws }) (Operand.Local cell) 8 ∷ [] in
      let a = start_none n from in
      let b = sum_none (n + 1) x ws in
      let e = many_append (start_instrs n from ++ sum_instrs (n + 1) x ws) last in
      let f = many_append (start_instrs n from) (sum_instrs (n + 1) x ws) in
      let g : many (distance_into m from n (Some cell) ty args)
      ≡ many ((start_instrs n from ++ sum_instrs (n + 1) x ws) ++ last) = refl in
      omega (arith, a, b, e, f, g)

  pub distance_none : (m : Module) (p : Plan) (n : ℕ) (i : Instr) → many (distance_behind m p n i) ≡ 0
  distance_none m p n (Instr.Gep r inbounds ty base indices) =
      into_none m (distance_from p r) n (entry p.cells r) ty indices
  distance_none m p n _ = refl

  pub written_many : (m : Module) (p : Plan) (n : ℕ) (is : List Instr) → many (written_instrs m p n is) ≡ many is
  written_many m p n [] = refl
  written_many m p n (i ∷ is) =
      let q : ℕ = after_saved n (save_row p i) in
      let a = saved_none p.kept n (save_row p i) in
      let b = result_none p (result_of i) in
      let c = distance_none m p q i in
      let d = written_many m p (after_one m p n i) is in
      let e = many_append (saved_values p.kept n (save_row p i)) (i ∷ stored_result p (result_of i)) in
      let f = many_append (saved_values p.kept n (save_row p i) ++ (i ∷ stored_result p (result_of i)))
      (distance_behind m p q i) in
      let g = many_append (written_one m p n i) (written_instrs m p (after_one m p n i) is) in
      let h : many (written_one m p n i) ≡ many ((saved_values p.kept n (save_row p i)
      ++ (i ∷ stored_result p (result_of i))) ++ distance_behind m p q i) = refl in
      omega (arith, a, b, c, d, e, f, g, h)
