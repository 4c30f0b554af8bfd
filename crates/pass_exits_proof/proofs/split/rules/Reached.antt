-- The labels that are flagged are those to which paths lead from the entry.
use Rattle.std.proofs.Common.{◌≡◌, ◌⊎◌, inl, inr, ⊎_elim, ℕ, zero, suc, ◌+◌, ◌<◌, ◌≤◌, Bool, true, false, List, [], ◌∷◌, length, refl, sym, ap, ◌∙◌, subst, arith}
use Rattle.std.specs.Prelude.{None, Option, Some, replicate, slice_get, slice_set, if◌then◌else◌}
use Rattle.pass_split.specs.Reached.{edges_of, entry_of, flag_or_false, flagged_within, is_flagged, piled, reached, targets_at, targets_in, todo_after}
use Rattle.pass_fetch_proof.proofs.ir_laws.facts.Lists.{set_here, set_length, set_other, found_label}
use Rattle.pass_fetch_proof.specs.flow_solver.Paths.{IsListed}
use Rattle.ir_model.specs.Names.{position_of}
use Rattle.ir_model.specs.declared.module.Block.{Block}
use Rattle.ir_model.specs.declared.module.Function.{Function}
use Rattle.pass_fetch_proof.specs.ir_paths.Paths.{targets}
use Rattle.pass_exits_proof.specs.split.rules.Reached.{Edge, Entry, HasTabledLabels, IsLedTo, IsTabled}
use Rattle.pass_fetch_proof.specs.run_laws.changed.Changed.{Each}
use Rattle.pass_fetch_proof.proofs.ir_laws.facts.Truth.{is_number}

-- ---- flags

flagged_here : (flags : List Bool) (label : ℕ) → label < length flags → is_flagged (slice_set flags label true) label ≡ true
flagged_here flags label low = ap flag_or_false (set_here flags label true low)

flagged_other : (flags : List Bool) (label k : ℕ) → (label ≡ k → ⊥) → is_flagged (slice_set flags label true) k ≡ is_flagged flags k
flagged_other flags label k other = ap flag_or_false (set_other flags label k true other)

-- what is flagged stays so
flagged_still : (flags : List Bool) (label k : ℕ) → label < length flags → is_flagged flags k ≡ true → is_flagged (slice_set flags label true) k ≡ true
flagged_still flags label k low e =
    ⊎_elim (λ (same : label ≡ k). subst (λ (n : ℕ). is_flagged (slice_set flags label true) n ≡ true) same (flagged_here flags label low)) (λ other. flagged_other flags label k other ∙ e) (is_number label k)

none_flagged : (n k : ℕ) → is_flagged (replicate n false) k ≡ false
none_flagged zero k = refl
none_flagged (suc n) zero = refl
none_flagged (suc n) (suc k) = none_flagged n k

-- ---- piles

listed_piled : (ts todo : List ℕ) (k : ℕ) → IsListed k (piled ts todo) → IsListed k ts ⊎ IsListed k todo
listed_piled [] todo k l = inr l
listed_piled (t ∷ ts) todo k l = on (listed_piled ts (t ∷ todo) k l)
  where
    on : IsListed k ts ⊎ IsListed k (t ∷ todo) → IsListed k (t ∷ ts) ⊎ IsListed k todo
    on (inl h) = inl (inr h)
    on (inr (inl e)) = inl (inl e)
    on (inr (inr h)) = inr h

pile_old : (ts todo : List ℕ) (k : ℕ) → IsListed k todo → IsListed k (piled ts todo)
pile_old [] todo k l = l
pile_old (t ∷ ts) todo k l = pile_old ts (t ∷ todo) k (inr l)

pile_new : (ts todo : List ℕ) (k : ℕ) → IsListed k ts → IsListed k (piled ts todo)
pile_new [] todo k l = absurd l
pile_new (t ∷ ts) todo k (inl e) = pile_old ts (t ∷ todo) k (inl e)
pile_new (t ∷ ts) todo k (inr l) = pile_new ts (t ∷ todo) k l

pile_length : (ts todo : List ℕ) → length (piled ts todo) ≡ length ts + length todo
pile_length [] todo = omega arith
pile_length (t ∷ ts) todo = let e : length (piled ts (t ∷ todo)) ≡ length ts + length (t ∷ todo) = pile_length ts (t ∷ todo) in omega (arith, e)

-- ---- edges of blocks that aren't flagged

abbrev open_block : List Bool → Block → ℕ
open_block flags b = if is_flagged flags b.label then 0 else length (targets b.term)

abbrev open_edges : List Bool → List Block → ℕ
open_edges flags [] = 0
open_edges flags (b ∷ bs) = open_block flags b + open_edges flags bs

module _ (flags : List Bool) (label : ℕ) (low : label < length flags) where
  abbrev more : List Bool
  more = slice_set flags label true

  block_falls : (b : Block) → open_block more b ≤ open_block flags b
  block_falls b = on (is_flagged flags b.label) refl
    where
      on : (t : Bool) → is_flagged flags b.label ≡ t → open_block more b ≤ (if t then 0 else length (targets b.term))
      on true e = let none : open_block more b ≡ 0 = ap (λ (t : Bool). if t then 0 else length (targets b.term)) (flagged_still flags label b.label low e) in omega (arith, none)
      on false e = most (is_flagged more b.label)
        where
          most : (t : Bool) → (if t then 0 else length (targets b.term)) ≤ length (targets b.term)
          most true = omega arith
          most false = omega arith

  edges_fall : (bs : List Block) → open_edges more bs ≤ open_edges flags bs
  edges_fall [] = omega arith
  edges_fall (b ∷ bs) = let here = block_falls b in let rest = edges_fall bs in omega (arith, here, rest)

  -- by those of the block that is flagged anew
  edges_drop : (bs : List Block) (k : ℕ) (b : Block) → slice_get bs k ≡ Some b → b.label ≡ label → is_flagged flags label ≡ false → length (targets b.term) + open_edges more bs ≤ open_edges flags bs
  edges_drop [] k b e is new = absurd (cc)
  edges_drop (c ∷ bs) zero b e is new =
      let is_one : c ≡ b = cc in
      let was : open_block flags b ≡ length (targets b.term) = ap (λ (t : Bool). if t then 0 else length (targets b.term)) (ap (is_flagged flags) is ∙ new) in
      let now : open_block more b ≡ 0 = ap (λ (t : Bool). if t then 0 else length (targets b.term)) (ap (is_flagged more) is ∙ flagged_here flags label low) in
      let rest = edges_fall bs in
      subst (λ (x : Block). length (targets b.term) + (open_block more x + open_edges more bs) ≤ open_block flags x + open_edges flags bs) (sym is_one) (omega (arith, was, now, rest))
  edges_drop (c ∷ bs) (suc k) b e is new = let here = block_falls c in let rest = edges_drop bs k b e is new in omega (arith, here, rest)

module _ (f : Function) where
  drops : (flags : List Bool) (label : ℕ) → label < length flags → is_flagged flags label ≡ false → length (targets_at f label) + open_edges (slice_set flags label true) f.blocks ≤ open_edges flags f.blocks
  drops flags label low new = on (slice_get f.blocks (position_of f label)) refl
    where
      on : (o : Option Block) → slice_get f.blocks (position_of f label) ≡ o → length (targets_in o) + open_edges (slice_set flags label true) f.blocks ≤ open_edges flags f.blocks
      on None e = let fall = edges_fall flags label low f.blocks in omega (arith, fall)
      on (Some b) e =
          edges_drop flags label low f.blocks (position_of f label) b e
          (found_label f.blocks label (length f.blocks) b (omega arith) e) new

  -- ---- what is flagged is reached

  abbrev Reaches : List Bool → Type 0
  Reaches flags = (k : ℕ) → is_flagged flags k ≡ true → IsLedTo f k

  abbrev AreLedTo : List ℕ → Type 0
  AreLedTo todo = (k : ℕ) → IsListed k todo → IsLedTo f k

  one_more : (flags : List Bool) (label : ℕ) → IsLedTo f label → Reaches flags → Reaches (slice_set flags label true)
  one_more flags label h r k e = ⊎_elim (λ (same : label ≡ k). subst (IsLedTo f) same h) (λ other. r k (sym (flagged_other flags label k other) ∙ e)) (is_number label k)

  todo_led : (flags : List Bool) (label : ℕ) (todo : List ℕ) → IsLedTo f label → AreLedTo todo → AreLedTo (todo_after f flags label todo)
  todo_led flags label todo h t = on (is_flagged flags label)
    where
      on : (b : Bool) → AreLedTo (if b then todo else piled (targets_at f label) todo)
      on true k l = t k l
      on false k l = ⊎_elim (λ there. Edge label k h there) (λ old. t k old) (listed_piled (targets_at f label) todo k l)

  flagged_led : (n : ℕ) (flags : List Bool) (todo : List ℕ) → Reaches flags → AreLedTo todo → Reaches (flagged_within n f flags todo)
  flagged_led zero flags todo r t = r
  flagged_led (suc n) flags [] r t = r
  flagged_led (suc n) flags (label ∷ todo) r t =
      let h : IsLedTo f label = t label (inl refl) in
      flagged_led n (slice_set flags label true) (todo_after f flags label todo) (one_more flags label h r) (todo_led flags label todo h (λ k l. t k (inr l)))

  pub flagged_is_led : Reaches (reached f)
  flagged_is_led =
      flagged_led (edges_of f.blocks + 1) (replicate (length f.names) false) (entry_of f.blocks)
      (λ k e. let t : false ≡ true = sym (none_flagged (length f.names) k) ∙ e in absurd (cc)) (λ k l. Entry k l)

  -- ---- what is reached is flagged

  module _ (tabled : HasTabledLabels f) where
    -- an edge from what is flagged leads to what is flagged, or is still to be looked at
    abbrev IsClosed : List Bool → List ℕ → Type 0
    IsClosed flags todo = (from : ℕ) → is_flagged flags from ≡ true → (to : ℕ) → IsListed to (targets_at f from) → (is_flagged flags to ≡ true) ⊎ IsListed to todo

    abbrev Below : List Bool → List ℕ → Type 0
    Below flags todo = (k : ℕ) → IsListed k todo → k < length flags

    of_each : (P : ℕ → Type 0) (xs : List ℕ) → Each P xs → (k : ℕ) → IsListed k xs → P k
    of_each P [] h k l = absurd l
    of_each P (x ∷ xs) h k (inl e) = subst P (sym e) h.0
    of_each P (x ∷ xs) h k (inr l) = of_each P xs h.1 k l

    module _ (flags : List Bool) (label : ℕ) (todo : List ℕ) (whole : length flags ≡ length f.names) (low : label < length flags) (closed : IsClosed flags (label ∷ todo)) where
      old_stays : (b : Bool) (k : ℕ) → IsListed k todo → IsListed k (if b then todo else piled (targets_at f label) todo)
      old_stays true k l = l
      old_stays false k l = pile_old (targets_at f label) todo k l

      carried_on : (to : ℕ) → (is_flagged flags to ≡ true) ⊎ IsListed to (label ∷ todo) → (is_flagged (slice_set flags label true) to ≡ true) ⊎ IsListed to (todo_after f flags label todo)
      carried_on to (inl e) = inl (flagged_still flags label to low e)
      carried_on to (inr (inl e)) = inl (subst (λ (k : ℕ). is_flagged (slice_set flags label true) k ≡ true) (sym e) (flagged_here flags label low))
      carried_on to (inr (inr l)) = inr (old_stays (is_flagged flags label) to l)

      from_here : (b : Bool) → is_flagged flags label ≡ b → (to : ℕ) → IsListed to (targets_at f label) → (is_flagged (slice_set flags label true) to ≡ true) ⊎ IsListed to (if b then todo else piled (targets_at f label) todo)
      from_here true e to l = ⊎_elim (λ d. inl (flagged_still flags label to low d)) (λ h. on h) (closed label e to l)
        where
          on : IsListed to (label ∷ todo) → (is_flagged (slice_set flags label true) to ≡ true) ⊎ IsListed to todo
          on (inl d) = inl (subst (λ (k : ℕ). is_flagged (slice_set flags label true) k ≡ true) (sym d) (flagged_here flags label low))
          on (inr h) = inr h
      from_here false e to l = inr (pile_new (targets_at f label) todo to l)

      closed_still : IsClosed (slice_set flags label true) (todo_after f flags label todo)
      closed_still from e to l =
          ⊎_elim
          (λ (same : label ≡ from). from_here (is_flagged flags label) refl to (subst (λ (k : ℕ). IsListed to (targets_at f k)) (sym same) l))
          (λ other. carried_on to (closed from (sym (flagged_other flags label from other) ∙ e) to l))
          (is_number label from)

      below_still : Below flags todo → Below (slice_set flags label true) (todo_after f flags label todo)
      below_still h k l = subst (λ (n : ℕ). k < n) (sym (set_length flags label true)) (on (is_flagged flags label) l)
        where
          on : (b : Bool) → IsListed k (if b then todo else piled (targets_at f label) todo) → k < length flags
          on true l = h k l
          on false l = ⊎_elim (λ there. subst (λ (n : ℕ). k < n) (sym whole) (of_each (IsTabled f) (targets_at f label) (tabled.targets label) k there)) (λ old. h k old) (listed_piled (targets_at f label) todo k l)

      -- each turn leaves fewer turns to take
      falls : length (todo_after f flags label todo) + open_edges (slice_set flags label true) f.blocks ≤ length todo + open_edges flags f.blocks
      falls = on (is_flagged flags label) refl
        where
          on : (b : Bool) → is_flagged flags label ≡ b → length (if b then todo else piled (targets_at f label) todo) + open_edges (slice_set flags label true) f.blocks ≤ length todo + open_edges flags f.blocks
          on true e = let fall = edges_fall flags label low f.blocks in omega (arith, fall)
          on false e =
              let drop = drops flags label low e in
              let pile : length (piled (targets_at f label) todo) ≡ length (targets_at f label) + length todo = pile_length (targets_at f label) todo in
              omega (arith, drop, pile)

    -- the flags at the end: closed, with all that were flagged or to be looked at
    record AreDone (flags : List Bool) (todo : List ℕ) (all : List Bool) : Type 0 where
      closed : (from : ℕ) → is_flagged all from ≡ true → (to : ℕ) → IsListed to (targets_at f from) → is_flagged all to ≡ true
      kept : (k : ℕ) → is_flagged flags k ≡ true → is_flagged all k ≡ true
      taken : (k : ℕ) → IsListed k todo → is_flagged all k ≡ true

    nothing_left : (flags : List Bool) → IsClosed flags [] → AreDone flags [] flags
    nothing_left flags h = record { closed = λ from e to l. ⊎_elim (λ d. d) (λ none. absurd none) (h from e to l); kept = λ k e. e; taken = λ k l. absurd l }

    done : (n : ℕ) (flags : List Bool) (todo : List ℕ) → length flags ≡ length f.names → Below flags todo → IsClosed flags todo → length todo + open_edges flags f.blocks ≤ n → AreDone flags todo (flagged_within n f flags todo)
    done zero flags [] whole below closed most = nothing_left flags closed
    done zero flags (label ∷ todo) whole below closed most = absurd (omega (arith, most))
    done (suc n) flags [] whole below closed most = nothing_left flags closed
    done (suc n) flags (label ∷ todo) whole below closed most =
        let low : label < length flags = below label (inl refl) in
        let fall = falls flags label todo whole low closed in
        let d = done n (slice_set flags label true) (todo_after f flags label todo) (set_length flags label true ∙ whole) (below_still flags label todo whole low closed (λ k l. below k (inr l))) (closed_still flags label todo whole low closed) (omega (arith, fall, most)) in
        record {
          closed = d.closed;
          kept = λ k e. d.kept k (flagged_still flags label k low e);
          taken = λ k l. taken_by d low k l;
        }
      where
        taken_by : AreDone (slice_set flags label true) (todo_after f flags label todo) (flagged_within n f (slice_set flags label true) (todo_after f flags label todo)) → label < length flags → (k : ℕ) → IsListed k (label ∷ todo) → is_flagged (flagged_within n f (slice_set flags label true) (todo_after f flags label todo)) k ≡ true
        taken_by d low k (inl e) = d.kept k (subst (λ (j : ℕ). is_flagged (slice_set flags label true) j ≡ true) (sym e) (flagged_here flags label low))
        taken_by d low k (inr l) = d.taken k (still (is_flagged flags label) l)
          where
            still : (b : Bool) → IsListed k todo → IsListed k (if b then todo else piled (targets_at f label) todo)
            still true l = l
            still false l = pile_old (targets_at f label) todo k l

    blank_length : (n : ℕ) → length (replicate n false) ≡ n
    blank_length zero = refl
    blank_length (suc n) = ap suc (blank_length n)

    all_open : (bs : List Block) → open_edges (replicate (length f.names) false) bs ≡ edges_of bs
    all_open [] = refl
    all_open (b ∷ bs) = λ i. (if none_flagged (length f.names) b.label i then 0 else length (targets b.term)) + all_open bs i

    short_entry : (bs : List Block) → length (entry_of bs) ≤ 1
    short_entry [] = omega arith
    short_entry (b ∷ bs) = omega arith

    whole_search : AreDone (replicate (length f.names) false) (entry_of f.blocks) (reached f)
    whole_search =
        done (edges_of f.blocks + 1) (replicate (length f.names) false) (entry_of f.blocks) (blank_length (length f.names))
        (λ k l. subst (λ (n : ℕ). k < n) (sym (blank_length (length f.names))) (of_each (IsTabled f) (entry_of f.blocks) tabled.entry k l))
        (λ from e. let t : false ≡ true = sym (none_flagged (length f.names) from) ∙ e in absurd (cc))
        (let all : open_edges (replicate (length f.names) false) f.blocks ≡ edges_of f.blocks = all_open f.blocks in let one = short_entry f.blocks in omega (arith, all, one))

    pub led_is_flagged : (label : ℕ) → IsLedTo f label → is_flagged (reached f) label ≡ true
    led_is_flagged _ (Entry label l) = whole_search.taken label l
    led_is_flagged _ (Edge from label h l) = whole_search.closed from (led_is_flagged from h) label l

pub flags_are_right : (f : Function) → HasTabledLabels f → (label : ℕ) → (is_flagged (reached f) label ≡ true → IsLedTo f label) × (IsLedTo f label → is_flagged (reached f) label ≡ true)
flags_are_right f tabled label = ((λ e. flagged_is_led f label e), (λ h. led_is_flagged f tabled label h))
