-- What follows the instructions of a function where its values are kept: instructions that don't use an old value, and those of the
-- function, which use it only where it isn't kept.
use Rattle.std.proofs.Common.{◌≡◌, ◌⊎◌, inl, inr, ⊎_elim, ℕ, ◌+◌, ◌<◌, ◌≤◌, Bool, true, false, List, [], ◌∷◌, ◌++◌, refl, sym, ap, ◌∙◌, subst, arith}
use Rattle.std.specs.Prelude.{Option, Some, None, map, option_to_list, slice_get, if◌then◌else◌}
use Rattle.pass_fetch_proof.proofs.cells.rules.Fetched.{AreFetches, FromCell, IsFetch, all_fetches, operand_low, operands_low}
use Rattle.pass_fetch_proof.proofs.cells.rules.Planned.{IsKeptWell, IsPlanned, fetch_there, planned_fetches}
use Rattle.pass_fetch_proof.proofs.cells.rules.Single.{IsSound}
use Rattle.pass_fetch_proof.proofs.cells.rules.Around.{saved_low}
use Rattle.pass_fetch_proof.proofs.cells.rules.Indices.{behind_low}
use Rattle.pass_fetch_proof.proofs.cells.rules.Spread.{spread}
use Rattle.pass_fetch_proof.proofs.cells.rules.Instrs.{same_made}
use Rattle.pass_edges_proof.specs.rule_uses.Uses.{local_of, locals_in}
use Rattle.pass_edges_proof.proofs.ir_laws.facts.Members.{each_joined}
use Rattle.pass_edges_proof.proofs.ir_laws.paths.source_rules.Locals.{listed_either, listed_left, listed_right}
use Rattle.pass_edges_proof.specs.flow_solver.Paths.{IsListed}
use Rattle.pass_edges_proof.specs.ir_parts.Contents.{arg_operands, callee_operands, instr_operands, result_of}
use Rattle.pass_edges_proof.specs.pass_distances.Sums.{is_wide, on_number, start_instrs, start_value, sum_instrs, sum_value, way_instrs, widened, widening}
use Rattle.pass_edges_proof.specs.pass_distances.Ways.{inner_type, inner_ways, way_at, ways_of}
use Rattle.pass_edges_proof.specs.pass_distances.declared.way.Way.{Way}
use Rattle.ir_model.specs.Layout.{unnamed}
use Rattle.ir_model.specs.Ty.{Ty, array, int, named, ptr, structure, token}
use Rattle.ir_model.specs.declared.instr.Instr.{Instr}
use Rattle.ir_model.specs.declared.instr.Phi.{Phi}
use Rattle.ir_model.specs.declared.module.Function.{Function}
use Rattle.ir_model.specs.declared.module.Module.{Module}
use Rattle.ir_model.specs.declared.operand.Arg.{Arg}
use Rattle.ir_model.specs.declared.operand.Callee.{Callee}
use Rattle.ir_model.specs.declared.operand.Operand.{Operand}
use Rattle.pass_edges_proof.specs.run_laws.changed.Changed.{Each}
use Rattle.pass_edges_proof.specs.pass_fetch.Fetching.{callee_by, fetch_at, fetched_args, fetched_operand, fetches_of_all, next_after, operand_by}
use Rattle.pass_edges_proof.specs.pass_fetch.Instrs.{next_after_instr, with_fetched}
use Rattle.pass_edges_proof.specs.pass_fetch.declared.fetch.Fetch.{Fetch}
use Rattle.pass_edges_proof.specs.pass_cells.Cells.{fetch_by, fetch_for, fetches_of as fetch_table}
use Rattle.pass_edges_proof.specs.pass_cells.Kept.{entry}
use Rattle.pass_edges_proof.specs.pass_cells.Moves.{address_again, after_saved, again_one, again_values, saved_one, saved_values}
use Rattle.pass_edges_proof.specs.pass_cells.Written.{after_one, cell_of, distance_behind, distance_from, distance_into, save_row, stored, stored_at, stored_one, stored_phis, stored_result}
use Rattle.pass_edges_proof.specs.pass_cells.declared.plan.KeptValue.{KeptValue}
use Rattle.pass_edges_proof.specs.pass_cells.declared.plan.Plan.{Plan}
use Rattle.pass_edges_proof.specs.rule_laws.rules.woven_rules.Weaving.{Weaving}
use Rattle.pass_edges_proof.proofs.rule_laws.rules.crossing.Follows.{Ended, Extra, Follows, IsExtra, Same, Uses}

pub extras_follow : (kept : ℕ → Type 0) (v : ℕ) (xs is js : List Instr) → Each (IsExtra v) xs → Follows kept v is js → Follows kept v is (xs ++ js)
extras_follow kept v [] is js h rest = rest
extras_follow kept v (x ∷ xs) is js h rest = Extra x is (xs ++ js) h.0 (extras_follow kept v xs is js h.1 rest)

pub all_extra : (kept : ℕ → Type 0) (v : ℕ) (xs : List Instr) → Each (IsExtra v) xs → Follows kept v [] xs
all_extra kept v [] h = Ended
all_extra kept v (x ∷ xs) h = Extra x [] xs h.0 (all_extra kept v xs h.1)

-- a value has a place
abbrev pub HasAPlace : Plan → ℕ → Type 0
HasAPlace p v = (k : ℕ) × (entry p.places v ≡ Some k)

-- ---- operands

module _ (w : Weaving) (f : Function) (p : Plan) (ok : IsSound w f) (planned : IsPlanned w f p) (v : ℕ) (old : v < w.first) where
  abbrev table : List (Option Fetch)
  table = fetch_table p

  abbrev fetches : AreFetches w f table
  fetches = planned_fetches w f p planned

  -- a value with a place is fetched
  place_fetched : HasAPlace p v → fetch_at (slice_get table v) ≡ None → ⊥
  place_fetched h e =
      let x = planned.places v h.0 h.1 in
      let both : fetch_by (Some x.value) ≡ None = sym (fetch_there p.kept p.places v ∙ ap (fetch_for p.kept) h.1 ∙ ap fetch_by x.there) ∙ e in
      absurd (cc)

  abbrev pub NotFetchedHere : Type 0
  NotFetchedHere = HasAPlace p v → ⊥

  local_stays : (n u : ℕ) (o : Option Fetch) → w.first ≤ n → local_of (operand_by n o (Operand.Local u)) ≡ Some v → (u ≡ v) × (o ≡ None)
  local_stays n u None low e = let same : u ≡ v = cc in (same, refl)
  local_stays n u (Some x) low e = let same : n ≡ v = cc in absurd (omega (arith, same, low, old))

  pub operand_stays : (n : ℕ) (x : Operand) → w.first ≤ n → local_of (fetched_operand table n x) ≡ Some v → (local_of x ≡ Some v) × NotFetchedHere
  operand_stays n (Operand.Local u) low e =
      let h = local_stays n u (fetch_at (slice_get table u)) low e in
      (ap (λ (k : ℕ). Some k) h.0, λ place. place_fetched place (ap (λ (k : ℕ). fetch_at (slice_get table k)) (sym h.0) ∙ h.1))
  operand_stays n (Operand.Global g) low e = absurd (cc)
  operand_stays n (Operand.Number z) low e = absurd (cc)
  operand_stays n Operand.True low e = absurd (cc)
  operand_stays n Operand.False low e = absurd (cc)
  operand_stays n Operand.Null low e = absurd (cc)
  operand_stays n Operand.None low e = absurd (cc)
  operand_stays n Operand.Poison low e = absurd (cc)

  -- operands in order with what is fetched in their place
  abbrev in_order : ℕ → List Operand → List Operand
  in_order n [] = []
  in_order n (x ∷ xs) = fetched_operand table n x ∷ in_order (next_after table n x) xs

  some_local : (o : Option ℕ) (u : ℕ) → IsListed u (option_to_list o) → o ≡ Some u
  some_local None u h = absurd h
  some_local (Some n) u (inl e) = ap (λ (k : ℕ). Some k) (sym e)
  some_local (Some n) u (inr h) = absurd h

  own_local : (x : Operand) → local_of x ≡ Some v → IsListed v (option_to_list (local_of x))
  own_local x e = subst (λ (o : Option ℕ). IsListed v (option_to_list o)) (sym e) (inl refl)

  pub list_stays : (n : ℕ) (xs : List Operand) → w.first ≤ n → IsListed v (locals_in (in_order n xs)) → IsListed v (locals_in xs) × NotFetchedHere
  list_stays n [] low h = absurd h
  list_stays n (x ∷ xs) low h =
      ⊎_elim
      (λ a. let s = operand_stays n x low (some_local (local_of (fetched_operand table n x)) v a) in (listed_left v (option_to_list (local_of x)) (locals_in xs) (own_local x s.0), s.1))
      (λ b. let s = list_stays (next_after table n x) xs (operand_low w f ok table fetches n x low) b in (listed_right v (option_to_list (local_of x)) (locals_in xs) s.0, s.1))
      (listed_either v (option_to_list (local_of (fetched_operand table n x))) (locals_in (in_order (next_after table n x) xs)) h)

  args_in_order : (n : ℕ) (args : List Arg) → arg_operands (fetched_args table n args) ≡ in_order n (arg_operands args)
  args_in_order n [] = refl
  args_in_order n (a ∷ args) = ap (λ (l : List Operand). fetched_operand table n a.value ∷ l) (args_in_order (next_after table n a.value) args)

  called_in_order : (n u : ℕ) (o : Option Fetch) → callee_operands (callee_by n o (Callee.Local u)) ≡ operand_by n o (Operand.Local u) ∷ []
  called_in_order n u None = refl
  called_in_order n u (Some x) = refl

  instr_in_order : (n : ℕ) (i : Instr) → instr_operands (with_fetched table n i) ≡ in_order n (instr_operands i)
  instr_in_order n (Instr.Binary r op flags ty a b) = refl
  instr_in_order n (Instr.Icmp r pred ty a b) = refl
  instr_in_order n (Instr.Select r c a b) = refl
  instr_in_order n (Instr.Cast r op nneg a to) = refl
  instr_in_order n (Instr.Alloca r ty align) = refl
  instr_in_order n (Instr.Load r ty x align) = refl
  instr_in_order n (Instr.Store a x align) = refl
  instr_in_order n (Instr.Gep r inbounds ty x args) = ap (λ (l : List Operand). fetched_operand table n x ∷ l) (args_in_order (next_after table n x) args)
  instr_in_order n (Instr.Call r must_tail ty (Callee.Named c) args) = args_in_order n args
  instr_in_order n (Instr.Call r must_tail ty (Callee.Allocator c) args) = args_in_order n args
  instr_in_order n (Instr.Call r must_tail ty (Callee.Intrinsic c) args) = args_in_order n args
  instr_in_order n (Instr.Call r must_tail ty (Callee.Local u) args) =
      λ k. called_in_order n u (fetch_at (slice_get table u)) k ++ args_in_order (next_after table n (Operand.Local u)) args k

  pub instr_uses_stay : (n : ℕ) (i : Instr) → w.first ≤ n → Uses v (with_fetched table n i) → Uses v i × NotFetchedHere
  instr_uses_stay n i low h = list_stays n (instr_operands i) low (subst (λ (l : List Operand). IsListed v (locals_in l)) (instr_in_order n i) h)

  -- ---- instructions that are put in

  new_other : (n : ℕ) → w.first ≤ n → n ≡ v → ⊥
  new_other n low e = absurd (omega (arith, e, low, old))

  result_other : (n : ℕ) → w.first ≤ n → Some n ≡ Some v → ⊥
  result_other n low e = let same : n ≡ v = cc in new_other n low same

  cell_other : (c : ℕ) → IsListed c w.fronts → c ≡ v → ⊥
  cell_other c l e = new_other c (ok.low c l) e

  -- the operand isn't the value
  abbrev IsOther : Operand → Type 0
  IsOther x = local_of x ≡ Some v → ⊥

  local_other : (u : ℕ) → (u ≡ v → ⊥) → IsOther (Operand.Local u)
  local_other u h e = let same : u ≡ v = cc in h same

  one_unused : (x : Operand) → IsOther x → IsListed v (locals_in (x ∷ [])) → ⊥
  one_unused x h l = ⊎_elim (λ a. h (some_local (local_of x) v a)) (λ b. absurd b) (listed_either v (option_to_list (local_of x)) [] l)

  two_unused : (x y : Operand) → IsOther x → IsOther y → IsListed v (locals_in (x ∷ y ∷ [])) → ⊥
  two_unused x y h k l = ⊎_elim (λ a. h (some_local (local_of x) v a)) (λ b. one_unused y k b) (listed_either v (option_to_list (local_of x)) (locals_in (y ∷ [])) l)

  load_extra : (n c : ℕ) (t : Ty) (align : ℕ) → w.first ≤ n → (c ≡ v → ⊥) → IsExtra v (Instr.Load n t (Operand.Local c) align)
  load_extra n c t align low h = record { unused = one_unused (Operand.Local c) (local_other c h); other = result_other n low }

  store_extra : (t : Ty) (x : Operand) (c align : ℕ) → IsOther x → (c ≡ v → ⊥) → IsExtra v (Instr.Store (record { ty = t; value = x }) (Operand.Local c) align)
  store_extra t x c align h k = record { unused = two_unused x (Operand.Local c) h (local_other c k); other = λ e. absurd (cc) }

  fetch_extra : (i : Instr) → IsFetch w i → IsExtra v i
  fetch_extra _ (FromCell n t c h l low) = load_extra n c t _ low (cell_other c l)

  pub fetches_extra : (is : List Instr) → Each (IsFetch w) is → Each (IsExtra v) is
  fetches_extra [] h = tt
  fetches_extra (i ∷ is) h = (fetch_extra i h.0, fetches_extra is h.1)

  abbrev AreExtra : List Instr → Type 0
  AreExtra xs = Each (IsExtra v) xs

  joined : (xs ys : List Instr) → AreExtra xs → AreExtra ys → AreExtra (xs ++ ys)
  joined xs ys h k = each_joined (IsExtra v) xs ys h k

  saved_extra : (n : ℕ) (o : Option KeptValue) → ((x : KeptValue) → o ≡ Some x → IsKeptWell w f x) → w.first ≤ n → AreExtra (saved_one n o)
  saved_extra n None well low = tt
  saved_extra n (Some x) well low = (
    load_extra n x.field_cell x.field_ty _ low (cell_other x.field_cell (well x refl).field_cell),
    (store_extra x.field_ty (Operand.Local n) x.field _ (local_other n (new_other n low)) (cell_other x.field (well x refl).field), tt),
  )

  pub saves_extra : (n : ℕ) (ks : List ℕ) → w.first ≤ n → AreExtra (saved_values p.kept n ks)
  saves_extra n [] low = tt
  saves_extra n (k ∷ ks) low = joined (saved_one n (slice_get p.kept k)) (saved_values p.kept (n + 1) ks) (saved_extra n (slice_get p.kept k) (planned.kept k) low) (saves_extra (n + 1) ks (omega (arith, low)))

  module _ (no_slot : (k : ℕ) (x : KeptValue) (s : ℕ) → slice_get p.kept k ≡ Some x → x.slot ≡ Some s → s ≡ v → ⊥) where
    address_extra : (n cell : ℕ) (o : Option ℕ) → ((s : ℕ) → o ≡ Some s → s ≡ v → ⊥) → (cell ≡ v → ⊥) → w.first ≤ n → AreExtra (address_again n cell o)
    address_extra n cell None slot other low = tt
    address_extra n cell (Some s) slot other low =
        let next : w.first ≤ n + 1 = omega (arith, low) in (
          record { unused = two_unused (Operand.Local s) (Operand.Local n) (local_other s (slot s refl)) (local_other n (new_other n low)); other = result_other (n + 1) next },
          (store_extra ptr (Operand.Local (n + 1)) cell _ (local_other (n + 1) (new_other (n + 1) next)) other, tt),
        )

    again_extra : (k n : ℕ) (o : Option KeptValue) → slice_get p.kept k ≡ o → w.first ≤ n → AreExtra (again_one n o)
    again_extra k n None e low = tt
    again_extra k n (Some x) e low =
        let well = planned.kept k x e in (
          load_extra n x.field x.field_ty _ low (cell_other x.field well.field),
          (
            store_extra x.field_ty (Operand.Local n) x.field_cell _ (local_other n (new_other n low)) (cell_other x.field_cell well.field_cell),
            address_extra n x.cell x.slot (λ s is. no_slot k x s e is) (cell_other x.cell well.cell) low,
          ),
        )

    pub agains_extra : (n : ℕ) (ks : List ℕ) → w.first ≤ n → AreExtra (again_values p.kept n ks)
    agains_extra n [] low = tt
    agains_extra n (k ∷ ks) low = joined (again_one n (slice_get p.kept k)) (again_values p.kept (n + 2) ks) (again_extra k n (slice_get p.kept k) refl low) (agains_extra (n + 2) ks (omega (arith, low)))

  one_extra : (u k : ℕ) (o : Option KeptValue) → slice_get p.kept k ≡ o → (u ≡ v → ⊥) → AreExtra (stored_one u o)
  one_extra u k None e other = tt
  one_extra u k (Some x) e other = (store_extra x.ty (Operand.Local u) x.cell _ (local_other u other) (cell_other x.cell (planned.kept k x e).cell), tt)

  at_extra : (u : ℕ) (o : Option ℕ) → (u ≡ v → ⊥) → AreExtra (stored_at p.kept u o)
  at_extra u None other = tt
  at_extra u (Some k) other = one_extra u k (slice_get p.kept k) refl other

  result_extra : (o : Option ℕ) → (o ≡ Some v → ⊥) → AreExtra (stored_result p o)
  result_extra None other = tt
  result_extra (Some u) other = at_extra u (entry p.places u) (λ e. other (ap (λ (k : ℕ). Some k) e))

  pub phis_extra : (ps : List Phi) → (IsListed v (map (λ x. x.result) ps) → ⊥) → AreExtra (stored_phis p ps)
  phis_extra [] other = tt
  phis_extra (x ∷ xs) other = joined (stored p x.result) (stored_phis p xs) (at_extra x.result (entry p.places x.result) (λ e. other (inl (sym e)))) (phis_extra xs (λ l. other (inr l)))

  -- ---- distances

  -- a way doesn't use the value
  abbrev IsOtherWay : Way → Type 0
  IsOtherWay way = (a : Arg) (size : ℕ) → way ≡ Way.Elements a size → IsOther a.value

  number_extra : (n : ℕ) (op : _) (x y : Operand) → w.first ≤ n → IsOther x → IsOther y → IsExtra v (on_number n op x y)
  number_extra n op x y low h k = record { unused = two_unused x y h k; other = result_other n low }

  wide_extra : (n : ℕ) (a : Arg) (b : Bool) (is : List Instr) → AreExtra is → AreExtra (if b then [] else is)
  wide_extra n a true is h = tt
  wide_extra n a false is h = h

  wide_other : (n : ℕ) (a : Arg) (b : Bool) → w.first ≤ n → IsOther a.value → IsOther (if b then a.value else Operand.Local n)
  wide_other n a true low h = h
  wide_other n a false low h = local_other n (new_other n low)

  way_extra : (n : ℕ) (x : Operand) (way : Way) → w.first ≤ n → IsOther x → IsOtherWay way → AreExtra (way_instrs n x way)
  way_extra n x (Way.Bytes b) low h k = (number_extra (n + 2) _ x (Operand.Number _) (omega (arith, low)) h (λ e. absurd (cc)), tt)
  way_extra n x (Way.Elements a size) low h k =
      let second : w.first ≤ n + 1 = omega (arith, low) in
      joined (widening n a) (_ ∷ _ ∷ [])
      (wide_extra n a (is_wide a.ty) (_ ∷ []) (record { unused = one_unused a.value (k a size refl); other = result_other n low }, tt)) (
        number_extra (n + 1) _ (widened n a) (Operand.Number _) second (wide_other n a (is_wide a.ty) low (k a size refl)) (λ e. absurd (cc)),
        (number_extra (n + 2) _ x (Operand.Local (n + 1)) (omega (arith, low)) h (local_other (n + 1) (new_other (n + 1) second)), tt),
      )

  sums_extra : (n : ℕ) (x : Operand) (ways : List Way) → w.first ≤ n → IsOther x → Each IsOtherWay ways → AreExtra (sum_instrs n x ways) × IsOther (sum_value n x ways)
  sums_extra n x [] low h k = (tt, h)
  sums_extra n x (way ∷ ways) low h k =
      let third : w.first ≤ n + 2 = omega (arith, low) in
      let rest = sums_extra (n + 3) (Operand.Local (n + 2)) ways (omega (arith, low)) (local_other (n + 2) (new_other (n + 2) third)) k.1 in
      (joined (way_instrs n x way) (sum_instrs (n + 3) (Operand.Local (n + 2)) ways) (way_extra n x way low h k.0) rest.0, rest.1)

  start_extra : (n : ℕ) (from : Option ℕ) → w.first ≤ n → ((c : ℕ) → from ≡ Some c → IsListed c w.fronts) → AreExtra (start_instrs n from) × IsOther (start_value n from)
  start_extra n None low h = (tt, λ e. absurd (cc))
  start_extra n (Some c) low h = ((load_extra n c (int 64) _ low (cell_other c (h c refl)), tt), local_other n (new_other n low))

  elements_other : (a b : Arg) (size c : ℕ) → IsOther a.value → Way.Elements a size ≡ Way.Elements b c → IsOther b.value
  elements_other a b size c h e = let same : a ≡ b = cc in subst (λ (x : Arg). IsOther x.value) same h

  way_at_other : (m : Module) (t : Ty) (a : Arg) → IsOther a.value → IsOtherWay (way_at m t a)
  way_at_other m (array n t) a h b c e = elements_other a b _ c h e
  way_at_other m (int n) a h b c e = absurd (cc)
  way_at_other m ptr a h b c e = absurd (cc)
  way_at_other m token a h b c e = absurd (cc)
  way_at_other m (structure ts) a h b c e = absurd (cc)
  way_at_other m (named n) a h b c e = absurd (cc)

  inner_other : (m : Module) (t : Ty) (args : List Arg) → (IsListed v (locals_in (arg_operands args)) → ⊥) → Each IsOtherWay (inner_ways m t args)
  inner_other m t [] h = tt
  inner_other m t (a ∷ args) h = (
    way_at_other m (unnamed m t) a (λ e. h (listed_left v (option_to_list (local_of a.value)) (locals_in (arg_operands args)) (own_local a.value e))),
    inner_other m (inner_type (unnamed m t) a) args (λ l. h (listed_right v (option_to_list (local_of a.value)) (locals_in (arg_operands args)) l)),
  )

  ways_other : (m : Module) (t : Ty) (args : List Arg) → (IsListed v (locals_in (arg_operands args)) → ⊥) → Each IsOtherWay (ways_of m t args)
  ways_other m t [] h = tt
  ways_other m t (a ∷ args) h = (
    λ b c e. elements_other a b _ c (λ is. h (listed_left v (option_to_list (local_of a.value)) (locals_in (arg_operands args)) (own_local a.value is))) e,
    inner_other m t args (λ l. h (listed_right v (option_to_list (local_of a.value)) (locals_in (arg_operands args)) l)),
  )

  from_there : (o : Option ℕ) (c : ℕ) → cell_of p.cells o ≡ Some c → IsListed c w.fronts
  from_there None c e = absurd (cc)
  from_there (Some b) c e = planned.cells b c e

  into_extra : (m : Module) (from : Option ℕ) (n : ℕ) (o : Option ℕ) (t : Ty) (args : List Arg) → w.first ≤ n → ((c : ℕ) → from ≡ Some c → IsListed c w.fronts) → ((c : ℕ) → o ≡ Some c → IsListed c w.fronts) → (IsListed v (locals_in (arg_operands args)) → ⊥) → AreExtra (distance_into m from n o t args)
  into_extra m from n None t args low base own h = tt
  into_extra m from n (Some c) t args low base own h =
      let start : List Instr = start_instrs n from in
      let x : Operand = start_value n from in
      let ways : List Way = ways_of m t args in
      let first = start_extra n from low base in
      let second = sums_extra (n + 1) x ways (omega (arith, low)) first.1 (ways_other m t args h) in
      joined (start ++ sum_instrs (n + 1) x ways) (_ ∷ []) (joined start (sum_instrs (n + 1) x ways) first.0 second.0) (store_extra (int 64) (sum_value (n + 1) x ways) c _ second.1 (cell_other c (own c refl)), tt)

  pub behind_extra : (m : Module) (n : ℕ) (i : Instr) → w.first ≤ n → (Uses v i → ⊥) → AreExtra (distance_behind m p n i)
  behind_extra m n (Instr.Gep r inbounds t base args) low h =
      into_extra m (distance_from p r) n (entry p.cells r) t args low (from_there (entry p.bases r)) (planned.cells r) (λ l. h (listed_right v (option_to_list (local_of base)) (locals_in (arg_operands args)) l))
  behind_extra m n _ low h = tt

  -- ---- the instructions of a block

  pub spread_follows : (m : Module) (k n : ℕ) (is rest : List Instr) → w.first ≤ k → w.first ≤ n → Each (IsFetch w) rest → Follows (HasAPlace p) v is (spread m p table k n is rest)
  spread_follows m k n [] rest low1 low2 h = all_extra (HasAPlace p) v rest (fetches_extra rest h)
  spread_follows m k n (i ∷ is) rest low1 low2 h =
      let j : Instr = with_fetched table n i in
      let a : List Instr = fetches_of_all table n (instr_operands i) in
      let b : List Instr = saved_values p.kept k (save_row p j) in
      let c : List Instr = stored_result p (result_of j) in
      let k1 : ℕ = after_saved k (save_row p j) in
      let d : List Instr = distance_behind m p k1 j in
      let k2 : ℕ = after_one m p k j in
      let n2 : ℕ = next_after_instr table n i in
      let more : List Instr = spread m p table k2 n2 is rest in
      let low3 : w.first ≤ k1 = saved_low w.first k (save_row p j) low1 in
      let later : Follows (HasAPlace p) v is more = spread_follows m k2 n2 is rest (behind_low m p w.first k1 j low3) (operands_low w f ok table fetches n (instr_operands i) low2) h in
      extras_follow (HasAPlace p) v a (i ∷ is) (b ++ (j ∷ (c ++ (d ++ more)))) (fetches_extra a (all_fetches w f ok table fetches n (instr_operands i) low2))
      (extras_follow (HasAPlace p) v b (i ∷ is) (j ∷ (c ++ (d ++ more))) (saves_extra k (save_row p j) low1)
      (Same i j is (c ++ (d ++ more)) (instr_uses_stay n i low2) (same_made table n i)
      (λ unused other.
      extras_follow (HasAPlace p) v c is (d ++ more) (result_extra (result_of j) (λ e. other (sym (same_made table n i) ∙ e)))
      (extras_follow (HasAPlace p) v d is more (behind_extra m k1 j low3 unused) later))))
