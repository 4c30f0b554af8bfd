-- The operands of the instructions that sum a distance.
use Rattle.std.proofs.Common.{◌≡◌, ℕ, ◌+◌, ◌≤◌, Bool, true, false, List, [], ◌∷◌, ◌++◌, refl, arith}
use Rattle.std.specs.Prelude.{None, Option, Some, ℤ, if◌then◌else◌}
use Rattle.pass_edges_proof.specs.rule_laws.rules.begin_order.Behind.{other_operands}
use Rattle.pass_edges_proof.specs.ir_base.declared.ops.CastOp.{CastOp}
use Rattle.pass_edges_proof.proofs.ir_laws.facts.Members.{each_behind}
use Rattle.pass_edges_proof.specs.ir_parts.Contents.{arg_operands, instr_operands}
use Rattle.pass_edges_proof.specs.pass_distances.Sums.{distance_instrs, is_wide, start_instrs, start_value, sum_instrs, sum_value, way_instrs, widened, widening}
use Rattle.pass_edges_proof.specs.pass_distances.Ways.{inner_type, inner_ways, way_at, ways_of}
use Rattle.pass_edges_proof.specs.pass_distances.declared.way.Way.{Way}
use Rattle.ir_model.specs.Layout.{unnamed}
use Rattle.ir_model.specs.Ty.{Ty, array, int, structure}
use Rattle.ir_model.specs.declared.instr.Instr.{Instr}
use Rattle.ir_model.specs.declared.module.Module.{Module}
use Rattle.ir_model.specs.declared.operand.Arg.{Arg}
use Rattle.ir_model.specs.declared.operand.Operand.{Operand}
use Rattle.pass_edges_proof.specs.run_laws.changed.Changed.{Each}
use Rattle.pass_edges_proof.specs.pass_cells.Kept.{entry}
use Rattle.pass_edges_proof.specs.pass_cells.Written.{cell_of, distance_behind, distance_from, distance_into}
use Rattle.pass_edges_proof.specs.pass_cells.declared.plan.Plan.{Plan}

module _ (Q : Operand → Type 0) (first : ℕ) (new : (n : ℕ) → first ≤ n → Q (Operand.Local n)) (number : (z : ℤ) → Q (Operand.Number z)) where
  abbrev pub Hold : List Instr → Type 0
  Hold is = Each (λ (i : Instr). Each Q (instr_operands i)) is

  -- the index of a way
  abbrev HoldsWay : Way → Type 0
  HoldsWay (Way.Bytes bytes) = Unit {0}
  HoldsWay (Way.Elements a size) = Q a.value

  widening_holds : (n : ℕ) (a : Arg) → Q a.value → Hold (widening n a)
  widening_holds n a h = on (is_wide a.ty)
    where
      on : (b : Bool) → Hold (if b then [] else Instr.Cast n CastOp.Sext false a (int 64) ∷ [])
      on true = tt
      on false = ((h, tt), tt)

  widened_holds : (n : ℕ) (a : Arg) → first ≤ n → Q a.value → Q (widened n a)
  widened_holds n a low h = on (is_wide a.ty)
    where
      on : (b : Bool) → Q (if b then a.value else Operand.Local n)
      on true = h
      on false = new n low

  way_holds : (n : ℕ) (x : Operand) (w : Way) → first ≤ n → Q x → HoldsWay w → Hold (way_instrs n x w)
  way_holds n x (Way.Bytes bytes) low h k = ((h, (number _, tt)), tt)
  way_holds n x (Way.Elements a size) low h k =
      each_behind (λ (i : Instr). Each Q (instr_operands i)) (widening n a) _ (widening_holds n a k) ((widened_holds n a low k, (number _, tt)), ((h, (new (n + 1) (omega (arith, low)), tt)), tt))

  sum_holds : (n : ℕ) (x : Operand) (ws : List Way) → first ≤ n → Q x → Each HoldsWay ws → Hold (sum_instrs n x ws)
  sum_holds n x [] low h k = tt
  sum_holds n x (w ∷ ws) low h k =
      each_behind (λ (i : Instr). Each Q (instr_operands i)) (way_instrs n x w) (sum_instrs (n + 3) (Operand.Local (n + 2)) ws) (way_holds n x w low h k.0)
      (sum_holds (n + 3) (Operand.Local (n + 2)) ws (omega (arith, low)) (new (n + 2) (omega (arith, low))) k.1)

  value_holds : (n : ℕ) (x : Operand) (ws : List Way) → first ≤ n → Q x → Q (sum_value n x ws)
  value_holds n x [] low h = h
  value_holds n x (w ∷ ws) low h = value_holds (n + 3) (Operand.Local (n + 2)) ws (omega (arith, low)) (new (n + 2) (omega (arith, low)))

  start_holds : (n : ℕ) (from : Option ℕ) → ((c : ℕ) → from ≡ Some c → Q (Operand.Local c)) → Hold (start_instrs n from)
  start_holds n None h = tt
  start_holds n (Some c) h = ((h c refl, tt), tt)

  start_is : (n : ℕ) (from : Option ℕ) → first ≤ n → Q (start_value n from)
  start_is n None low = number _
  start_is n (Some c) low = new n low

  distance_holds : (n : ℕ) (from : Option ℕ) (cell : ℕ) (ws : List Way) → first ≤ n → ((c : ℕ) → from ≡ Some c → Q (Operand.Local c)) → Q (Operand.Local cell) → Each HoldsWay ws → Hold (distance_instrs n from cell ws)
  distance_holds n from cell ws low starts h k =
      let x : Operand = start_value n from in
      let start : Q x = start_is n from low in
      let next : first ≤ n + 1 = omega (arith, low) in
      let end : List Instr = Instr.Store (record { ty = int 64; value = sum_value (n + 1) x ws }) (Operand.Local cell) 8 ∷ [] in
      each_behind (λ (i : Instr). Each Q (instr_operands i)) (start_instrs n from ++ sum_instrs (n + 1) x ws) end
      (each_behind (λ (i : Instr). Each Q (instr_operands i)) (start_instrs n from) (sum_instrs (n + 1) x ws) (start_holds n from starts) (sum_holds (n + 1) x ws next start k))
      ((value_holds (n + 1) x ws next start, (h, tt)), tt)

  -- ---- ways

  way_ok : (m : Module) (t : Ty) (a : Arg) → Q a.value → HoldsWay (way_at m t a)
  way_ok m (array n t) a h = h
  way_ok m (structure ts) a h = tt
  way_ok m _ a h = tt

  inner_ok : (m : Module) (t : Ty) (args : List Arg) → Each Q (arg_operands args) → Each HoldsWay (inner_ways m t args)
  inner_ok m t [] h = tt
  inner_ok m t (a ∷ args) h = (way_ok m (unnamed m t) a h.0, inner_ok m (inner_type (unnamed m t) a) args h.1)

  ways_ok : (m : Module) (t : Ty) (args : List Arg) → Each Q (arg_operands args) → Each HoldsWay (ways_of m t args)
  ways_ok m t [] h = tt
  ways_ok m t (a ∷ args) h = (h.0, inner_ok m t args h.1)

  -- ---- behind an instruction

  module _ (m : Module) (p : Plan) (cells : (v c : ℕ) → entry p.cells v ≡ Some c → Q (Operand.Local c)) where
    from_cell : (o : Option ℕ) (c : ℕ) → cell_of p.cells o ≡ Some c → Q (Operand.Local c)
    from_cell None c e = absurd (cc)
    from_cell (Some base) c e = cells base c e

    into_holds : (r : ℕ) (o from : Option ℕ) (n : ℕ) (t : Ty) (args : List Arg) → first ≤ n → entry p.cells r ≡ o → ((c : ℕ) → from ≡ Some c → Q (Operand.Local c)) → Each Q (arg_operands args) → Hold (distance_into m from n o t args)
    into_holds r None from n t args low e starts h = tt
    into_holds r (Some cell) from n t args low e starts h = distance_holds n from cell (ways_of m t args) low starts (cells r cell e) (ways_ok m t args h)

    pub behind_holds : (n : ℕ) (i : Instr) → first ≤ n → Each Q (other_operands i) → Hold (distance_behind m p n i)
    behind_holds n (Instr.Gep r inbounds ty x args) low h = into_holds r (entry p.cells r) (distance_from p r) n ty args low refl (λ c e. from_cell (entry p.bases r) c e) h.1
    behind_holds n i low h = tt
