-- The distance of a getelementptr, which is summed behind it.
use Rattle.std.proofs.Common.{◌≡◌, inl, ℕ, ◌+◌, ◌-◌, ◌^◌, ◌≤◌, Bool, true, false, List, [], ◌∷◌, ◌++◌, refl, sym, ap, ◌∙◌, subst, arith}
use Rattle.std.proofs.lemmas.Bool.{lt-ltb}
use Rattle.std.specs.Prelude.{Option, Some, None, nat_lt, pos, if◌then◌else◌}
use Rattle.pass_edges_proof.proofs.rule_laws.rules.counted.Lists.{AreAmong, among_behind, made_grows, made_joined}
use Rattle.pass_edges_proof.proofs.rule_laws.rules.counted.Puts.{ArePut, known_grows, puts_joined}
use Rattle.pass_fetch_proof.proofs.cells.rules.Single.{IsSound, IsTold, cell_kind, load_kind, load_put, new_kind, number_put, own_kind, store_of, widening_put}
use Rattle.pass_edges_proof.proofs.rule_laws.rules.counted.Types.{narrower}
use Rattle.pass_edges_proof.specs.ir_laws.facts.counted.Widths.{has_width}
use Rattle.pass_edges_proof.specs.ir_base.declared.ops.BinOp.{BinOp}
use Rattle.pass_edges_proof.specs.ir_base.declared.ops.CastOp.{CastOp}
use Rattle.pass_edges_proof.specs.rule_uses.Uses.{made_by_instrs}
use Rattle.pass_edges_proof.proofs.ir_laws.facts.Truth.{equal_numbers}
use Rattle.pass_edges_proof.proofs.ir_laws.facts.Members.{each_left, each_right}
use Rattle.pass_edges_proof.specs.flow_solver.Paths.{IsListed}
use Rattle.pass_edges_proof.specs.pass_distances.Sums.{distance_instrs, is_wide, on_number, start_instrs, start_value, sum_instrs, sum_value, way_instrs, widened, widening}
use Rattle.pass_edges_proof.specs.pass_distances.Ways.{field_number, inner_type, inner_ways, way_at, ways_of}
use Rattle.pass_edges_proof.specs.pass_distances.declared.way.Way.{Way}
use Rattle.ir_model.specs.Layout.{field_offset, size_of, unnamed}
use Rattle.ir_model.specs.Ty.{Ty, array, int, named, ptr, structure, token}
use Rattle.ir_model.specs.declared.instr.Instr.{Instr}
use Rattle.ir_model.specs.declared.module.Function.{Function}
use Rattle.ir_model.specs.declared.module.Module.{Module}
use Rattle.ir_model.specs.declared.operand.Arg.{Arg}
use Rattle.ir_model.specs.declared.operand.Operand.{Operand}
use Rattle.pass_edges_proof.specs.run_laws.changed.Changed.{Each}
use Rattle.pass_edges_proof.specs.ir_sizes.Cut.{capped}
use Rattle.pass_edges_proof.specs.rule_values.Fits.{fits, fits_integer, fits_kind}
use Rattle.pass_edges_proof.specs.rule_values.declared.kinds.Kind.{Kind}
use Rattle.pass_edges_proof.specs.rule_laws.rules.woven_rules.Weaving.{Constant, IsKnown, New, Weaving, kinds_with}
use Rattle.pass_edges_proof.proofs.ir_laws.facts.Numbers.{min_small}

capped_small : (n : ℕ) → nat_lt (capped n) (2 ^ 64) ≡ true
capped_small n = lt-ltb (capped n) (2 ^ 64) (min_small n (2 ^ 64 - 1))

-- ---- indices, and what they add

-- an index: an integer of a width that types are written with, which is known in a block that has made some values
pub record IsIndex (w : Weaving) (f : Function) (block : ℕ) (made : List ℕ) (a : Arg) : Type 0 where
  pub width : has_width a.ty ≡ true
  pub integer : fits_integer (kinds_with w f) a ≡ true
  pub known : IsKnown w f block made a.value

-- a number of 64 bits
pub record IsNumber (w : Weaving) (f : Function) (block : ℕ) (made : List ℕ) (x : Operand) : Type 0 where
  pub fit : fits (kinds_with w f) (int 64) x ≡ true
  pub known : IsKnown w f block made x

pub data IsWay (w : Weaving) (f : Function) (block : ℕ) (made : List ℕ) : Way → Type 0 where
  OfBytes : (n : ℕ) → nat_lt n (2 ^ 64) ≡ true → IsWay w f block made (Way.Bytes n)
  OfElements : (a : Arg) (size : ℕ) → IsIndex w f block made a → nat_lt size (2 ^ 64) ≡ true → IsWay w f block made (Way.Elements a size)

module _ (w : Weaving) (m : Module) (f : Function) (block : ℕ) where
  abbrev pub AreIndices : List ℕ → List Arg → Type 0
  AreIndices made args = Each (IsIndex w f block made) args

  way_there : (made : List ℕ) (t : Ty) (a : Arg) → IsIndex w f block made a → IsWay w f block made (way_at m t a)
  way_there made (array n t) a h = OfElements a (capped (size_of m t)) h (capped_small (size_of m t))
  way_there made (structure ts) a h = OfBytes (capped (field_offset m ts (field_number a.value))) (capped_small (field_offset m ts (field_number a.value)))
  way_there made _ a h = OfBytes 0 refl

  inner_there : (made : List ℕ) (t : Ty) (args : List Arg) → AreIndices made args → Each (IsWay w f block made) (inner_ways m t args)
  inner_there made t [] h = tt
  inner_there made t (a ∷ args) h = (way_there made (unnamed m t) a h.0, inner_there made (inner_type (unnamed m t) a) args h.1)

  pub ways_there : (made : List ℕ) (t : Ty) (args : List Arg) → AreIndices made args → Each (IsWay w f block made) (ways_of m t args)
  ways_there made t [] h = tt
  ways_there made t (a ∷ args) h = (OfElements a (capped (size_of m t)) h.0 (capped_small (size_of m t)), inner_there made t args h.1)

  -- ---- they stay so where more is made

  number_grows : (made now : List ℕ) → AreAmong made now → (x : Operand) → IsNumber w f block made x → IsNumber w f block now x
  number_grows made now among x h = record { fit = h.fit; known = known_grows w m f block made now among x h.known }

  way_grows : (made now : List ℕ) → AreAmong made now → (way : Way) → IsWay w f block made way → IsWay w f block now way
  way_grows made now among _ (OfBytes n small) = OfBytes n small
  way_grows made now among _ (OfElements a size h small) =
      OfElements a size (record { width = h.width; integer = h.integer; known = known_grows w m f block made now among a.value h.known }) small

  pub ways_grow : (made now : List ℕ) → AreAmong made now → (ways : List Way) → Each (IsWay w f block made) ways → Each (IsWay w f block now) ways
  ways_grow made now among [] h = tt
  ways_grow made now among (x ∷ xs) h = (way_grows made now among x h.0, ways_grow made now among xs h.1)

  literal_number : (made : List ℕ) (n : ℕ) → nat_lt n (2 ^ 64) ≡ true → IsNumber w f block made (Operand.Number (pos n))
  literal_number made n small = record { fit = small; known = Constant (Operand.Number (pos n)) refl }

  module _ (ok : IsSound w f) where
    new_number : (made : List ℕ) (n : ℕ) → w.first ≤ n → IsListed n made → w.kinds n ≡ Some (Kind.Int 64) → IsNumber w f block made (Operand.Local n)
    new_number made n low h kind = record { fit = ap (λ (o : Option Kind). fits_kind o (int 64)) (new_kind w f ok n (Kind.Int 64) low kind); known = New n low h }

    sum_kind : (n : ℕ) (op : BinOp) (x y : Operand) → w.first ≤ n → IsTold w (on_number n op x y) → w.kinds n ≡ Some (Kind.Int 64)
    sum_kind n op x y low told = sym (told n refl low).kind ∙ own_kind w f ok n (Kind.Int 64)

    -- ---- an index as a number

    wide_fits : (t : Ty) (x : Operand) → is_wide t ≡ true → fits_integer (kinds_with w f) (record { ty = t; value = x }) ≡ true → fits (kinds_with w f) (int 64) x ≡ true
    wide_fits (int v) x wide h = subst (λ (k : ℕ). fits (kinds_with w f) (int k) x ≡ true) (equal_numbers v 64 wide) h
    wide_fits ptr x wide h = absurd (cc)
    wide_fits token x wide h = absurd (cc)
    wide_fits (array n t) x wide h = absurd (cc)
    wide_fits (structure ts) x wide h = absurd (cc)
    wide_fits (named n) x wide h = absurd (cc)

    abbrev cast : ℕ → Arg → List Instr
    cast n a = Instr.Cast n CastOp.Sext false a (int 64) ∷ []

    narrow_put : (made : List ℕ) (n : ℕ) (t : Ty) (x : Operand) → is_wide t ≡ false → IsIndex w f block made (record { ty = t; value = x }) → w.first ≤ n → Each (IsTold w) (cast n (record { ty = t; value = x })) → ArePut w m f block made (cast n (record { ty = t; value = x })) × IsNumber w f block (n ∷ made) (Operand.Local n)
    narrow_put made n (int v) x wide h low told =
        let kind : w.kinds n ≡ Some (Kind.Int 64) = sym (told.0 n refl low).kind ∙ own_kind w f ok n (Kind.Int 64) in
        ((widening_put w m f block made n v x (narrower v h.width wide) h.known h.integer low told.0, tt), new_number (n ∷ made) n low (inl refl) kind)
    narrow_put made n ptr x wide h low told = absurd (cc)
    narrow_put made n token x wide h low told = absurd (cc)
    narrow_put made n (array k t) x wide h low told = absurd (cc)
    narrow_put made n (structure ts) x wide h low told = absurd (cc)
    narrow_put made n (named k) x wide h low told = absurd (cc)

    widened_by : (made : List ℕ) (n : ℕ) (a : Arg) (b : Bool) → is_wide a.ty ≡ b → IsIndex w f block made a → w.first ≤ n → Each (IsTold w) (if b then [] else cast n a) → ArePut w m f block made (if b then [] else cast n a) × IsNumber w f block (made_by_instrs made (if b then [] else cast n a)) (if b then a.value else Operand.Local n)
    widened_by made n a true e h low told = (tt, record { fit = wide_fits a.ty a.value e h.integer; known = h.known })
    widened_by made n a false e h low told = narrow_put made n a.ty a.value e h low told

    widened_put : (made : List ℕ) (n : ℕ) (a : Arg) → IsIndex w f block made a → w.first ≤ n → Each (IsTold w) (widening n a) → ArePut w m f block made (widening n a) × IsNumber w f block (made_by_instrs made (widening n a)) (widened n a)
    widened_put made n a h low told = widened_by made n a (is_wide a.ty) refl h low told

    -- ---- sums

    two_put : (made : List ℕ) (n : ℕ) (x y : Operand) (size : ℕ) → IsNumber w f block made x → IsNumber w f block made y → nat_lt size (2 ^ 64) ≡ true → w.first ≤ n → Each (IsTold w) (on_number (n + 1) BinOp.Mul y (Operand.Number (pos size)) ∷ on_number (n + 2) BinOp.Add x (Operand.Local (n + 1)) ∷ []) → ArePut w m f block made (on_number (n + 1) BinOp.Mul y (Operand.Number (pos size)) ∷ on_number (n + 2) BinOp.Add x (Operand.Local (n + 1)) ∷ []) × IsNumber w f block ((n + 2) ∷ (n + 1) ∷ made) (Operand.Local (n + 2))
    two_put made n x y size hx hy small low told =
        let second : w.first ≤ n + 1 = omega (arith, low) in
        let third : w.first ≤ n + 2 = omega (arith, low) in
        let product : IsNumber w f block ((n + 1) ∷ made) (Operand.Local (n + 1)) = new_number ((n + 1) ∷ made) (n + 1) second (inl refl) (sum_kind (n + 1) BinOp.Mul y (Operand.Number (pos size)) second told.0) in
        let sum : IsNumber w f block ((n + 1) ∷ made) x = number_grows made ((n + 1) ∷ made) (among_behind ((n + 1) ∷ []) made) x hx in (
          (
            number_put w m f block made (n + 1) BinOp.Mul y (Operand.Number (pos size)) hy.known hy.fit (Constant (Operand.Number (pos size)) refl) small second told.0,
            (number_put w m f block ((n + 1) ∷ made) (n + 2) BinOp.Add x (Operand.Local (n + 1)) sum.known sum.fit product.known product.fit third told.1.0, tt),
          ),
          new_number ((n + 2) ∷ (n + 1) ∷ made) (n + 2) third (inl refl) (sum_kind (n + 2) BinOp.Add x (Operand.Local (n + 1)) third told.1.0),
        )

    way_put : (made : List ℕ) (n : ℕ) (x : Operand) (way : Way) → IsNumber w f block made x → IsWay w f block made way → w.first ≤ n → Each (IsTold w) (way_instrs n x way) → ArePut w m f block made (way_instrs n x way) × IsNumber w f block (made_by_instrs made (way_instrs n x way)) (Operand.Local (n + 2))
    way_put made n x _ hx (OfBytes b small) low told =
        let third : w.first ≤ n + 2 = omega (arith, low) in (
          (number_put w m f block made (n + 2) BinOp.Add x (Operand.Number (pos b)) hx.known hx.fit (Constant (Operand.Number (pos b)) refl) small third told.0, tt),
          new_number ((n + 2) ∷ made) (n + 2) third (inl refl) (sum_kind (n + 2) BinOp.Add x (Operand.Number (pos b)) third told.0),
        )
    way_put made n x _ hx (OfElements a size h small) low told =
        let wide : List Instr = widening n a in
        let two : List Instr = on_number (n + 1) BinOp.Mul (widened n a) (Operand.Number (pos size)) ∷ on_number (n + 2) BinOp.Add x (Operand.Local (n + 1)) ∷ [] in
        let first = widened_put made n a h low (each_left (IsTold w) wide two told) in
        let now : List ℕ = made_by_instrs made wide in
        let second = two_put now n x (widened n a) size (number_grows made now (made_grows wide made) x hx) first.1 small low (each_right (IsTold w) wide two told) in (
          puts_joined w m f block made wide two first.0 second.0,
          subst (λ (ns : List ℕ). IsNumber w f block ns (Operand.Local (n + 2))) (sym (made_joined made wide two)) second.1,
        )

    sums_put : (made : List ℕ) (n : ℕ) (x : Operand) (ways : List Way) → IsNumber w f block made x → Each (IsWay w f block made) ways → w.first ≤ n → Each (IsTold w) (sum_instrs n x ways) → ArePut w m f block made (sum_instrs n x ways) × IsNumber w f block (made_by_instrs made (sum_instrs n x ways)) (sum_value n x ways)
    sums_put made n x [] hx h low told = (tt, hx)
    sums_put made n x (way ∷ ways) hx h low told =
        let here : List Instr = way_instrs n x way in
        let rest : List Instr = sum_instrs (n + 3) (Operand.Local (n + 2)) ways in
        let now : List ℕ = made_by_instrs made here in
        let first = way_put made n x way hx h.0 low (each_left (IsTold w) here rest told) in
        let second = sums_put now (n + 3) (Operand.Local (n + 2)) ways first.1 (ways_grow made now (made_grows here made) ways h.1) (omega (arith, low)) (each_right (IsTold w) here rest told) in (
          puts_joined w m f block made here rest first.0 second.0,
          subst (λ (ns : List ℕ). IsNumber w f block ns (sum_value (n + 3) (Operand.Local (n + 2)) ways)) (sym (made_joined made here rest)) second.1,
        )

    -- ---- the distance

    -- where a distance begins: nowhere, or at what a cell keeps
    IsStart : ℕ → Option ℕ → List ℕ → Type 0
    IsStart n from made = ArePut w m f block made (start_instrs n from) × IsNumber w f block (made_by_instrs made (start_instrs n from)) (start_value n from)

    start_put : (made : List ℕ) (n : ℕ) (from : Option ℕ) → ((c : ℕ) → from ≡ Some c → IsListed c w.fronts × IsKnown w f block made (Operand.Local c)) → w.first ≤ n → Each (IsTold w) (start_instrs n from) → IsStart n from made
    unfolding IsStart
    start_put made n None cell low told = (tt, literal_number made 0 refl)
    start_put made n (Some c) cell low told =
        let at = cell c refl in (
          (load_put w m f block made n (int 64) c refl at.1 (cell_kind w f ok c at.0) low told.0, tt),
          new_number (n ∷ made) n low (inl refl) (load_kind w f ok n (int 64) c low told.0),
        )

    pub distance_put : (made : List ℕ) (n : ℕ) (from : Option ℕ) (cell : ℕ) (ways : List Way) → ((c : ℕ) → from ≡ Some c → IsListed c w.fronts × IsKnown w f block made (Operand.Local c)) → IsListed cell w.fronts → IsKnown w f block made (Operand.Local cell) → Each (IsWay w f block made) ways → w.first ≤ n → Each (IsTold w) (distance_instrs n from cell ways) → ArePut w m f block made (distance_instrs n from cell ways)
    unfolding IsStart
    distance_put made n from cell ways starts among known h low told =
        let start : List Instr = start_instrs n from in
        let x : Operand = start_value n from in
        let sum : List Instr = sum_instrs (n + 1) x ways in
        let last : List Instr = Instr.Store (record { ty = int 64; value = sum_value (n + 1) x ways }) (Operand.Local cell) 8 ∷ [] in
        let both : Each (IsTold w) (start ++ sum) = each_left (IsTold w) (start ++ sum) last told in
        let first = start_put made n from starts low (each_left (IsTold w) start sum both) in
        let now : List ℕ = made_by_instrs made start in
        let second = sums_put now (n + 1) x ways first.1 (ways_grow made now (made_grows start made) ways h) (omega (arith, low)) (each_right (IsTold w) start sum both) in
        let all : List ℕ = made_by_instrs made (start ++ sum) in
        let number : IsNumber w f block all (sum_value (n + 1) x ways) = subst (λ (ns : List ℕ). IsNumber w f block ns (sum_value (n + 1) x ways)) (sym (made_joined made start sum)) second.1 in
        puts_joined w m f block made (start ++ sum) last (puts_joined w m f block made start sum first.0 second.0)
        (store_of w m f block all (int 64) (sum_value (n + 1) x ways) cell refl number.known number.fit (known_grows w m f block made all (made_grows (start ++ sum) made) (Operand.Local cell) known) (cell_kind w f ok cell among), tt)
