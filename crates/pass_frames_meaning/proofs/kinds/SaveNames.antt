-- The new names of what is put in front of a save come in the order of the passes.
use Rattle.std.proofs.Common.{◌≡◌, inl, inr, ⊎_elim, ℕ, zero, suc, ◌+◌, ◌<◌, ◌≤◌, Bool, List, [], ◌∷◌, ◌++◌, length, Option, Some, None, refl, sym, ap, ◌∙◌, subst, arith}
use Rattle.std.specs.Prelude.{replicate, slice_get}
use Rattle.pass_frames_proof.specs.flow_solver.Paths.{IsListed}
use Rattle.pass_frames_proof.proofs.ir_laws.facts.Lists.{get_within, set_at}
use Rattle.pass_frames_proof.proofs.ir_laws.paths.source_rules.Locals.{listed_either}
use Rattle.pass_frames_proof.specs.ir_model.declared.instr.Instr.{Instr}
use Rattle.pass_frames_proof.specs.pass_addresses.Placing.{stays, without_promise_of}
use Rattle.pass_frames_proof.specs.pass_cells.Cells.{fetched_function, fetches_of}
use Rattle.pass_frames_proof.specs.pass_cells.Kept.{entry, row_or, rows_from, with_pair, with_row, with_row_of}
use Rattle.pass_frames_proof.specs.pass_cells.Moves.{after_saved, saved_one, saved_values}
use Rattle.pass_frames_proof.specs.pass_cells.Written.{after_one, row_at, save_row}
use Rattle.pass_frames_proof.specs.pass_cells.declared.plan.KeptValue.{KeptValue}
use Rattle.pass_frames_proof.specs.pass_fetch.Fetching.{fetch_at, fetch_of, next_after, next_by}
use Rattle.pass_frames_proof.specs.pass_fetch.Instrs.{next_after_instrs}
use Rattle.pass_frames_proof.specs.pass_fetch.declared.fetch.Fetch.{Fetch}
use Rattle.pass_frames_proof.specs.pass_frames.Framed.{begin_of}
use Rattle.pass_frames_meaning.proofs.kinds.Writing.{write_low, write_to}
use Rattle.pass_frames_meaning.proofs.order.Counts.{joined}
use Rattle.pass_frames_meaning.proofs.order.Order.{front_room, names_in_order}
use Rattle.pass_frames_meaning.proofs.others.Unlocated.{unaccessed}
use Rattle.pass_frames_proof.proofs.code.Names.{Count, Kept, count_is, keeping}
use Rattle.pass_frames_proof.specs.Code.{loaded, saved, slot_table, write_name}
use Rattle.pass_frames_proof.specs.Framings.{IsFraming}
use Rattle.pass_frames_proof.specs.Places.{Framing, Placed, fetched, instrs_at, marked, named, offsets, plan, written}
use Rattle.pass_frames_proof.specs.Related.{IsKeptValue}
use Rattle.pass_frames_proof.specs.Saving.{AreSavesInOrder, IsBare, save_call}
use Rattle.pass_frames_proof.specs.Stepping.{AreNamesInOrder, state_in}
use Rattle.pass_frames_proof.proofs.pass_proofs.fetch.rules.Puts.{fetch_rises}
use Rattle.pass_frames_proof.specs.ir_model.Ty.{Ty}
use Rattle.pass_frames_proof.specs.ir_model.declared.operand.Arg.{Arg}
use Rattle.pass_frames_proof.specs.ir_model.declared.operand.Operand.{Operand}
use Rattle.pass_frames_proof.proofs.code.Idle.{instr_same}
use Rattle.pass_frames_proof.proofs.code.Left.{longer}
use Rattle.std.proofs.lemmas.Option.{slice_get-map}
use Rattle.std.specs.Prelude.{option_map}

-- ---- rows have numbers of kept values

module _ (places : List (Option ℕ)) where
  -- a number is that of a value
  abbrev IsNumberOf : ℕ → Type 0
  IsNumberOf n = (v : ℕ) × (entry places v ≡ Some n)

  abbrev AreNumbers : List (List ℕ) → Type 0
  AreNumbers rows = (j n : ℕ) (row : List ℕ) → slice_get rows j ≡ Some row → IsListed n row → IsNumberOf n

  row_numbers : (rows : List (List ℕ)) → AreNumbers rows → (j n : ℕ) → IsListed n (row_or (slice_get rows j))
      → IsNumberOf n
  row_numbers rows h j n l = on (slice_get rows j) refl l
    where
      on : (o : Option (List ℕ)) → slice_get rows j ≡ o → IsListed n (row_or o) → IsNumberOf n
      on None d k = absurd k
      on (Some row) d k = h j n row d k

  with_number : (rows : List (List ℕ)) (j k : ℕ) → AreNumbers rows → IsNumberOf k → AreNumbers (with_row rows j k)
  with_number rows j k h is i n row e l = ⊎_elim
      (λ z. ⊎_elim (λ old. row_numbers rows h j n old) (λ new. last new)
      (listed_either n (row_or (slice_get rows j)) (k ∷ []) (subst (IsListed n) z.1 l)))
      (λ old. h i n row old l)
      (set_at rows j (row_or (slice_get rows j) ++ k ∷ []) i row e)
    where
      last : IsListed n (k ∷ []) → IsNumberOf n
      last (inl same) = subst IsNumberOf (sym same) is
      last (inr none) = absurd none

  with_numbers : (rows : List (List ℕ)) (p : ℕ × ℕ) → AreNumbers rows → AreNumbers (with_pair places rows p.0 p.1)
  with_numbers rows p h = on (entry places p.0) refl
    where
      on : (o : Option ℕ) → entry places p.0 ≡ o → AreNumbers (with_row_of rows p.1 o)
      on None e = h
      on (Some k) e = with_number rows p.1 k h (p.0, e)

  all_numbers : (rows : List (List ℕ)) (ps : List (ℕ × ℕ)) → AreNumbers rows → AreNumbers (rows_from places rows ps)
  all_numbers rows [] h = h
  all_numbers rows (p ∷ ps) h = all_numbers (with_pair places rows p.0 p.1) ps (with_numbers rows p h)

  no_numbers : (count : ℕ) → AreNumbers (replicate count [])
  no_numbers zero j n row e l = absurd (cc)
  no_numbers (suc count) zero n row e l =
      let same : [] ≡ row = cc in
      absurd (subst (IsListed n) (sym same) l)
  no_numbers (suc count) (suc j) n row e l = no_numbers count j n row e l

pub get_there : {A : Type 0} (xs : List A) (n : ℕ) → n < length xs → (x : A) × (slice_get xs n ≡ Some x)
get_there [] n lt = absurd (omega (arith, lt))
get_there (x ∷ xs) zero lt = (x, refl)
get_there (x ∷ xs) (suc n) lt = get_there xs n (omega (arith, lt))

module _ (x : Framing) (is : IsFraming x) where
  -- a number of a row is that of a kept value
  pub record IsRowValue (n : ℕ) : Type 0 where
    pub value : ℕ
    pub kept : KeptValue
    pub is_kept : IsKeptValue x value kept
    pub number : is_kept.number ≡ n

  pub row_value : (o : Option ℕ) (n : ℕ) → IsListed n (row_at (plan x).rows o) → IsRowValue n
  row_value None n l = absurd l
  row_value (Some j) n l =
      let z = row_numbers (Kept x is).places (plan x).rows
      (all_numbers (Kept x is).places _ x.contents.crossing (no_numbers (Kept x is).places _)) j n l in
      let lt : n < Count x is = get_within (Kept x is).values n z.0 ((keeping x is).there z.0 n z.1) in
      let long : length (plan x).kept ≡ Count x is = count_is x is in
      let y = get_there (plan x).kept n (omega (arith, lt, long)) in
      record { value = z.0; kept = y.0; is_kept = record { number = n; told = z.1; there = y.1 }; number = refl }

  -- ---- each store of a value into its field has an address

  abbrev S : List (Option Fetch)
  S = slot_table x

  field_fetched : (v d : ℕ) → slice_get (offsets x) v ≡ Some (Some d)
      → fetch_of S (Operand.Local v) ≡ Some (Fetch.Address (begin_of x.function) d)
  field_fetched v d e =
      ap fetch_at (slice_get-map (option_map (Fetch.Address (begin_of x.function))) (offsets x) v)
      ∙ ap (λ (o : Option (Option ℕ)). fetch_at (option_map (option_map (Fetch.Address (begin_of x.function))) o)) e

  one_takes : (w m d : ℕ) (kv : KeptValue) → slice_get (offsets x) kv.field ≡ Some (Some d)
      → m + 1 ≤ next_after_instrs S m (saved_one w (Some kv))
  one_takes w m d kv e =
      let first : ℕ = next_after S m (Operand.Local kv.field_cell) in
      let a : m ≤ first = fetch_rises S m (Operand.Local kv.field_cell ∷ []) in
      let second : ℕ = next_after S first (Operand.Local w) in
      let b : first ≤ second = fetch_rises S first (Operand.Local w ∷ []) in
      let c : next_after S second (Operand.Local kv.field) ≡ second + 1 =
      ap (next_by second) (field_fetched kv.field d e) in
      omega (arith, a, b, c)

  row_takes : (row : List ℕ) → ((n : ℕ) → IsListed n row → (kv : KeptValue) × (slice_get (plan x).kept n ≡ Some kv)
      × (d : ℕ) × (slice_get (offsets x) kv.field ≡ Some (Some d))) → (w m : ℕ)
      → m + length row ≤ next_after_instrs S m (saved_values (plan x).kept w row)
  row_takes [] h w m = omega arith
  row_takes (n ∷ row) h w m =
      let z = h n (inl refl) in
      let first : ℕ = next_after_instrs S m (saved_one w (slice_get (plan x).kept n)) in
      let a : m + 1 ≤ first =
      subst (λ (o : Option KeptValue). m + 1 ≤ next_after_instrs S m (saved_one w o)) (sym z.1)
      (one_takes w m z.2 z.0 z.3) in
      let b : first + length row ≤ next_after_instrs S first (saved_values (plan x).kept (w + 1) row) =
      row_takes row (λ k l. h k (inr l)) (w + 1) first in
      let c : next_after_instrs S m (saved_one w (slice_get (plan x).kept n)
      ++ saved_values (plan x).kept (w + 1) row)
      ≡ next_after_instrs S first (saved_values (plan x).kept (w + 1) row) =
      joined S m (saved_one w (slice_get (plan x).kept n)) (saved_values (plan x).kept (w + 1) row) in
      omega (arith, a, b, c)

  after_row : (n : ℕ) (row : List ℕ) → after_saved n row ≡ n + length row
  after_row n [] = omega arith
  after_row n (k ∷ row) = let more = after_row (n + 1) row in omega (arith, more)

  -- ---- a save

  named_fetched : length (named x).names ≤ length (fetched x).names
  unfolding fetched_function
  named_fetched = longer (named x).names _

  module _ (k at token : ℕ) (must_tail : Bool) (ty : Option Ty) (args : List Arg)
      (there : slice_get (instrs_at x k) at
      ≡ Some (save_call token must_tail ty args))
      (bare : IsBare x (save_call token must_tail ty args)) (o : Option ℕ)
      (told : save_row (plan x) (save_call token must_tail ty args)
      ≡ row_at (plan x).rows o)
      (fields : (v : ℕ) (kv : KeptValue) (kept : IsKeptValue x v kv) → IsListed kept.number (row_at (plan x).rows o)
      → (d : ℕ) × (slice_get (offsets x) kv.field ≡ Some (Some d))) where
    abbrev i : Instr
    i = save_call token must_tail ty args

    abbrev n : Placed
    n = state_in x k at

    abbrev row : List ℕ
    row = save_row (plan x) i

    same : loaded x n i ≡ i
    same = instr_same (fetches_of (plan x)) _ i bare.unloaded

    order : AreNamesInOrder x n i
    order = names_in_order x is k at i there (unaccessed x n i refl)
        (ap (stays (marked x)) same)
        (ap without_promise_of same ∙ sym same)

    row_to : write_name n + length row ≤ length (written x).names
    row_to =
        let a : after_one x.code (plan x) (write_name n) (loaded x n i) ≤ length (written x).names =
        write_to x is k at i there in
        let e : after_one x.code (plan x) (write_name n) (loaded x n i) ≡ after_saved (write_name n) row =
        ap (λ (j : Instr). after_one x.code (plan x) (write_name n) j) same in
        let b = after_row (write_name n) row in
        omega (arith, a, e, b)

    takes : (m : ℕ) → m + length row ≤ next_after_instrs S m (saved x n i)
    takes m =
        subst (λ (r : List ℕ). m + length row ≤ next_after_instrs S m (saved_values (plan x).kept (write_name n) r))
        (ap (λ (j : Instr). save_row (plan x) j) (sym same))
        (row_takes row each (write_name n) m)
      where
        each : (q : ℕ) → IsListed q row → (kv : KeptValue) × (slice_get (plan x).kept q ≡ Some kv)
            × (d : ℕ) × (slice_get (offsets x) kv.field ≡ Some (Some d))
        each q l =
            let listed : IsListed q (row_at (plan x).rows o) = subst (IsListed q) told l in
            let z = row_value o q listed in
            let f = fields z.value z.kept z.is_kept
            (subst (λ (r : ℕ). IsListed r (row_at (plan x).rows o)) (sym z.number) listed) in
            (z.kept, ap (slice_get (plan x).kept) (sym z.number) ∙ z.is_kept.there, f.0, f.1)

    pub saves_in_order : AreSavesInOrder x n row
    saves_in_order = record {
      low =
          let a = write_low x is k at in
          let b : length (named x).names ≤ length (fetched x).names = named_fetched in
          omega (arith, a, b);
      addresses = let a = row_to in let b = order.addresses in omega (arith, a, b);
      slots = λ e listed.
          let z = order.slots e listed in
          let a = row_to in
          let p = z.0.0 in
          let q = z.0.1 in
          ((omega (arith, a, p), omega (arith, a, q)), z.1);
      room = front_room x is k at i there (unaccessed x n i refl)
          (ap (stays (marked x)) same)
          (ap without_promise_of same ∙ sym same) (length row) takes;
    }
