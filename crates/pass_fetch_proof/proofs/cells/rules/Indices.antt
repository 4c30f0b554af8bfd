-- The indices of a getelementptr whose operands are fetched: known integers, from which its distance is summed.
use Rattle.std.proofs.Common.{◌≡◌, inl, ℕ, ◌+◌, ◌≤◌, true, List, [], ◌∷◌, refl, sym, ap, ◌∙◌, subst, arith}
use Rattle.std.specs.List.{list_all}
use Rattle.std.specs.Prelude.{Option, Some, None, is_some, option_to_list, ◌&&◌}
use Rattle.pass_fetch_proof.proofs.cells.rules.Distances.{IsIndex, distance_put, ways_there}
use Rattle.pass_fetch_proof.proofs.cells.rules.Fetched.{AreAtHand, AreFetches, AreInPlace}
use Rattle.pass_edges_proof.proofs.rule_laws.rules.counted.Lists.{AreAmong}
use Rattle.pass_fetch_proof.proofs.cells.rules.Planned.{IsPlanned}
use Rattle.pass_edges_proof.proofs.rule_laws.rules.counted.Puts.{ArePut}
use Rattle.pass_fetch_proof.proofs.cells.rules.Single.{IsSound, IsTold}
use Rattle.pass_edges_proof.specs.ir_laws.facts.counted.Widths.{has_width}
use Rattle.pass_edges_proof.specs.rule_uses.Uses.{local_of, locals_in}
use Rattle.pass_edges_proof.proofs.ir_laws.facts.Truth.{and_first, and_second}
use Rattle.pass_edges_proof.proofs.ir_laws.paths.source_rules.Locals.{listed_left, listed_right}
use Rattle.pass_edges_proof.specs.flow_solver.Paths.{IsListed}
use Rattle.pass_edges_proof.specs.ir_parts.Contents.{arg_operands, arg_types, instr_operands, instr_types}
use Rattle.pass_edges_proof.specs.pass_distances.Sums.{sum_next}
use Rattle.pass_edges_proof.specs.pass_distances.Ways.{ways_of}
use Rattle.pass_edges_proof.specs.pass_distances.declared.way.Way.{Way}
use Rattle.ir_model.specs.Ty.{Ty, array, int, named, ptr, structure, token}
use Rattle.ir_model.specs.declared.instr.Instr.{Instr}
use Rattle.ir_model.specs.declared.module.Function.{Function}
use Rattle.ir_model.specs.declared.module.Module.{Module}
use Rattle.ir_model.specs.declared.operand.Arg.{Arg}
use Rattle.ir_model.specs.declared.operand.Operand.{Operand}
use Rattle.pass_edges_proof.specs.ir_locals.Tables.{or_first}
use Rattle.pass_edges_proof.specs.run_laws.changed.Changed.{Each}
use Rattle.pass_edges_proof.specs.rule_types.Wants.{is_ptr}
use Rattle.pass_edges_proof.specs.pass_fetch.Fetching.{fetched_arg, fetched_args, next_after}
use Rattle.pass_edges_proof.specs.pass_fetch.Instrs.{with_fetched}
use Rattle.pass_edges_proof.specs.pass_fetch.declared.fetch.Fetch.{Fetch}
use Rattle.pass_edges_proof.specs.pass_cells.Kept.{entry}
use Rattle.pass_edges_proof.specs.pass_cells.Written.{after_distance, after_distance_into, cell_of, distance_behind, distance_from, distance_into}
use Rattle.pass_edges_proof.specs.pass_cells.declared.plan.Plan.{Plan}
use Rattle.pass_edges_proof.specs.rule_values.Fits.{fits, fits_integer, fits_kind, is_integer, is_tokenless}
use Rattle.pass_edges_proof.specs.rule_values.Geps.{indices_fit}
use Rattle.pass_edges_proof.specs.rule_values.Instrs.{fits_instr}
use Rattle.pass_edges_proof.specs.rule_values.Kinds.{value_kind}
use Rattle.pass_edges_proof.specs.rule_values.declared.kinds.Kind.{Kind}
use Rattle.pass_edges_proof.specs.rule_laws.rules.woven_rules.Weaving.{Constant, Fetched, IsInPlace, New, Old, Same, Weaving}
use Rattle.pass_edges_proof.proofs.rule_laws.rules.counted.Indices.{AreMadeBefore, IsMadeBefore}

pub head_made : (f : Function) (block : ℕ) (before : List ℕ) (x : Operand) (xs : List Operand) → AreMadeBefore f block before (x ∷ xs) → (v : ℕ) → local_of x ≡ Some v → IsMadeBefore f block before v
head_made f block before x xs h v e =
    h v (listed_left v (option_to_list (local_of x)) (locals_in xs) (subst (λ (o : Option ℕ). IsListed v (option_to_list o)) (sym e) (inl refl)))

pub rest_made : (f : Function) (block : ℕ) (before : List ℕ) (x : Operand) (xs : List Operand) → AreMadeBefore f block before (x ∷ xs) → AreMadeBefore f block before xs
rest_made f block before x xs h v l = h v (listed_right v (option_to_list (local_of x)) (locals_in xs) l)

fits_some : (o : Option Kind) (t : Ty) → fits_kind o t ≡ true → is_some o ≡ true
fits_some None t h = absurd (cc)
fits_some (Some kind) t h = refl

first_stays : (o q : Option Kind) → is_some o ≡ true → or_first o q ≡ o
first_stays None q h = absurd (cc)
first_stays (Some kind) q h = refl

no_address : (t : Ty) → (is_integer t && is_ptr t) ≡ true → ⊥
no_address (int v) h = absurd (cc)
no_address ptr h = absurd (cc)
no_address token h = absurd (cc)
no_address (array n t) h = absurd (cc)
no_address (structure ts) h = absurd (cc)
no_address (named n) h = absurd (cc)

module _ (w : Weaving) (m : Module) (f : Function) (block : ℕ) (ok : IsSound w f) where
  same_index : (before made : List ℕ) (t : Ty) (x : Operand) → AreAmong before made → has_width t ≡ true → fits_integer (value_kind f) (record { ty = t; value = x }) ≡ true → ((v : ℕ) → local_of x ≡ Some v → IsMadeBefore f block before v) → IsIndex w f block made (record { ty = t; value = x })
  same_index before made t (Operand.Local v) among width fit used =
      let is : is_some (value_kind f v) ≡ true = fits_some (value_kind f v) t (and_second (is_integer t) (fits_kind (value_kind f v) t) fit) in
      record {
        width = width;
        integer = ap (λ (o : Option Kind). is_integer t && fits_kind o t) (first_stays (value_kind f v) (w.kinds v) is) ∙ fit;
        known = Old v (ok.goes v) is (λ r a b. used v refl r (λ l. a (among v l)) b);
      }
  same_index before made t (Operand.Global n) among width fit used = absurd (no_address t fit)
  same_index before made t (Operand.Number z) among width fit used = record { width = width; integer = fit; known = Constant (Operand.Number z) refl }
  same_index before made t Operand.True among width fit used = record { width = width; integer = fit; known = Constant Operand.True refl }
  same_index before made t Operand.False among width fit used = record { width = width; integer = fit; known = Constant Operand.False refl }
  same_index before made t Operand.Null among width fit used = record { width = width; integer = fit; known = Constant Operand.Null refl }
  same_index before made t Operand.None among width fit used = record { width = width; integer = fit; known = Constant Operand.None refl }
  same_index before made t Operand.Poison among width fit used = record { width = width; integer = fit; known = Constant Operand.Poison refl }

  index_there : (before made : List ℕ) (t : Ty) (x y : Operand) → IsInPlace w f made x y → AreAmong before made → has_width t ≡ true → fits_integer (value_kind f) (record { ty = t; value = x }) ≡ true → ((v : ℕ) → local_of x ≡ Some v → IsMadeBefore f block before v) → IsIndex w f block made (record { ty = t; value = y })
  index_there before made t _ _ (Same x stays) among width fit used = same_index before made t x among width fit used
  index_there before made t _ _ (Fetched v n low h kind) among width fit used =
      record {
        width = width;
        integer = ap (λ (o : Option Kind). is_integer t && fits_kind o t) (ap (λ (o : Option Kind). or_first o (w.kinds n)) (ok.old n low) ∙ kind) ∙ fit;
        known = New n low h;
      }

  module _ (t : List (Option Fetch)) (fetches : AreFetches w f t) where
    indices_there : (before made : List ℕ) (n : ℕ) (args : List Arg) → AreInPlace w f ok t fetches made n (arg_operands args) → AreAmong before made → list_all has_width (arg_types args) ≡ true → list_all (fits_integer (value_kind f)) args ≡ true → AreMadeBefore f block before (arg_operands args) → Each (IsIndex w f block made) (fetched_args t n args)
    indices_there before made n [] h among width fit used = tt
    indices_there before made n (a ∷ args) h among width fit used = (
      index_there before made a.ty a.value (fetched_arg t n a).value h.0 among
          (and_first (has_width a.ty) (list_all has_width (arg_types args)) width)
          (and_first (fits_integer (value_kind f) a) (list_all (fits_integer (value_kind f)) args) fit)
          (head_made f block before a.value (arg_operands args) used),
      indices_there before made (next_after t n a.value) args h.1 among
          (and_second (has_width a.ty) (list_all has_width (arg_types args)) width)
          (and_second (fits_integer (value_kind f) a) (list_all (fits_integer (value_kind f)) args) fit)
          (rest_made f block before a.value (arg_operands args) used),
    )

    module _ (p : Plan) (planned : IsPlanned w f p) where
      distance_into_put : (made : List ℕ) (n : ℕ) (from : Option ℕ) (cell : Option ℕ) (ty : Ty) (args : List Arg) → ((c : ℕ) → from ≡ Some c → IsListed c w.fronts) → ((c : ℕ) → cell ≡ Some c → IsListed c w.fronts) → AreAtHand w f block made → Each (IsIndex w f block made) args → w.first ≤ n → Each (IsTold w) (distance_into m from n cell ty args) → ArePut w m f block made (distance_into m from n cell ty args)
      distance_into_put made n from None ty args base own hand h low told = tt
      distance_into_put made n from (Some c) ty args base own hand h low told =
          distance_put w m f block ok made n from c (ways_of m ty args) (λ b e. (base b e, hand b (base b e))) (own c refl) (hand c (own c refl)) (ways_there w m f block made ty args h) low told

      -- the cell of the base's distance is one of the cells
      from_there : (o : Option ℕ) (c : ℕ) → cell_of p.cells o ≡ Some c → IsListed c w.fronts
      from_there None c e = absurd (cc)
      from_there (Some b) c e = planned.cells b c e

      -- what is put in behind an instruction whose operands are fetched
      pub behind_put : (before made : List ℕ) (n k : ℕ) (i : Instr) → AreInPlace w f ok t fetches made n (instr_operands i) → AreAmong before made → list_all has_width (instr_types i) ≡ true → fits_instr m (value_kind f) i ≡ true → AreMadeBefore f block before (instr_operands i) → AreAtHand w f block made → w.first ≤ k → Each (IsTold w) (distance_behind m p k (with_fetched t n i)) → ArePut w m f block made (distance_behind m p k (with_fetched t n i))
      behind_put before made n k (Instr.Gep r inbounds ty base args) h among width fit used hand low told =
          let right : (list_all (fits_integer (value_kind f)) args && indices_fit m ty args) ≡ true = and_second (is_tokenless ty && fits (value_kind f) ptr base) (list_all (fits_integer (value_kind f)) args && indices_fit m ty args) fit in
          distance_into_put made k (distance_from p r) (entry p.cells r) ty (fetched_args t (next_after t n base) args)
          (from_there (entry p.bases r)) (planned.cells r) hand
          (indices_there before made (next_after t n base) args h.1 among (and_second (has_width ty) (list_all has_width (arg_types args)) width) (and_first (list_all (fits_integer (value_kind f)) args) (indices_fit m ty args) right) (rest_made f block before base (arg_operands args) used))
          low told
      behind_put before made n k _ h among width fit used hand low told = tt

-- ---- numbers

sums_low : (first n : ℕ) (ways : List Way) → first ≤ n → first ≤ sum_next n ways
sums_low first n [] low = low
sums_low first n (x ∷ xs) low = sums_low first (n + 3) xs (omega (arith, low))

into_low : (m : Module) (first n : ℕ) (o : Option ℕ) (ty : Ty) (args : List Arg) → first ≤ n → first ≤ after_distance_into m n o ty args
into_low m first n None ty args low = low
into_low m first n (Some c) ty args low = sums_low first (n + 1) (ways_of m ty args) (omega (arith, low))

pub behind_low : (m : Module) (p : Plan) (first n : ℕ) (i : Instr) → first ≤ n → first ≤ after_distance m p n i
behind_low m p first n (Instr.Gep r inbounds ty base args) low = into_low m first n (entry p.cells r) ty args low
behind_low m p first n _ low = low
