-- What is fetched for phis at the ends of the blocks from which their operands come.
use Rattle.std.proofs.Common.{◌≡◌, ◌⊎◌, inl, inr, ⊎_elim, ℕ, zero, suc, ◌+◌, ◌<◌, ◌≤◌, List, [], ◌∷◌, ◌++◌, length, refl, sym, ap, ◌∙◌, subst, arith}
use Rattle.std.specs.Prelude.{Option, Some, None, map, replicate, slice_set}
use Rattle.pass_fetch_proof.proofs.cells.rules.Counts.{operands_rise, phis_rise}
use Rattle.pass_fetch_proof.proofs.cells.rules.Fetched.{AreFetches, IsFetch, operand_fetch, operand_low}
use Rattle.pass_edges_proof.proofs.ir_laws.facts.Truth.{either}
use Rattle.pass_edges_proof.proofs.rule_laws.rules.counted.Times.{Adds, adds_as, adds_none, adds_wider, made_both, made_times, names_times, same_times, same_one, other_none}
use Rattle.pass_edges_proof.proofs.ir_laws.facts.Lists.{times_joined, set_length, row_of}
use Rattle.pass_fetch_proof.proofs.cells.rules.Single.{IsSound}
use Rattle.pass_edges_proof.proofs.ir_laws.facts.Members.{each_joined}
use Rattle.pass_edges_proof.proofs.rule_laws.rules.source_rules.Locals.{block_names}
use Rattle.pass_edges_proof.proofs.ir_laws.paths.source_rules.Locals.{listed_left, listed_right}
use Rattle.pass_edges_proof.specs.flow_solver.Paths.{IsListed}
use Rattle.ir_model.specs.declared.instr.Incoming.{Incoming}
use Rattle.ir_model.specs.declared.instr.Instr.{Instr}
use Rattle.ir_model.specs.declared.instr.Phi.{Phi}
use Rattle.ir_model.specs.declared.module.Block.{Block}
use Rattle.ir_model.specs.declared.module.Function.{Function}
use Rattle.pass_edges_proof.specs.run_laws.changed.Changed.{Each}
use Rattle.pass_edges_proof.specs.pass_fetch.Blocks.{end_at, ends_of_blocks, ends_of_incoming, ends_of_phis, next_after_phi, next_after_phis, next_after_phis_by, with_end}
use Rattle.pass_edges_proof.specs.pass_fetch.Fetching.{fetch_into, fetch_of, fetches_by, fetches_of, next_after, next_after_all, next_by}
use Rattle.pass_edges_proof.specs.pass_fetch.declared.fetch.Fetch.{Fetch}
use Rattle.pass_edges_proof.specs.ir_laws.facts.woven_rules.Pairs.{times}
use Rattle.pass_edges_proof.specs.rule_laws.rules.woven_rules.Weaving.{Weaving}

abbrev Rows : Type 0
Rows = List (List Instr)

-- ---- one row changed

row_here : (ends : Rows) (label : ℕ) (row : List Instr) → label < length ends → end_at (slice_set ends label row) label ≡ row
row_here [] label row lt = absurd (omega (arith, lt))
row_here (x ∷ xs) zero row lt = refl
row_here (x ∷ xs) (suc label) row lt = row_here xs label row (omega (arith, lt))

row_other : (ends : Rows) (label l : ℕ) (row : List Instr) → (label ≡ l → ⊥) → end_at (slice_set ends label row) l ≡ end_at ends l
row_other [] label l row ne = refl
row_other (x ∷ xs) zero zero row ne = absurd (ne refl)
row_other (x ∷ xs) zero (suc l) row ne = refl
row_other (x ∷ xs) (suc label) zero row ne = refl
row_other (x ∷ xs) (suc label) (suc l) row ne = row_other xs label l row (λ e. ne (ap suc e))

-- each row is the one that is set, or the same
row_either : (ends : Rows) (label l : ℕ) (row : List Instr) → ((label ≡ l) × (end_at (slice_set ends label row) l ≡ row)) ⊎ (end_at (slice_set ends label row) l ≡ end_at ends l)
row_either [] label l row = inr refl
row_either (x ∷ xs) zero zero row = inl (refl, refl)
row_either (x ∷ xs) zero (suc l) row = inr refl
row_either (x ∷ xs) (suc label) zero row = inr refl
row_either (x ∷ xs) (suc label) (suc l) row = ⊎_elim (λ a. inl (ap suc a.0, a.1)) (λ b. inr b) (row_either xs label l row)

-- ---- all are loads from cells

abbrev pub AreEndsFetches : Weaving → Rows → Type 0
AreEndsFetches w ends = (l : ℕ) → Each (IsFetch w) (end_at ends l)

blank_row : (n l : ℕ) → end_at (replicate n []) l ≡ []
blank_row zero l = refl
blank_row (suc n) zero = refl
blank_row (suc n) (suc l) = blank_row n l

pub blank_fetches : (w : Weaving) (n : ℕ) → AreEndsFetches w (replicate n [])
blank_fetches w n l = subst (Each (IsFetch w)) (sym (blank_row n l)) tt

module _ (w : Weaving) (f : Function) (ok : IsSound w f) (t : List (Option Fetch)) (fetches : AreFetches w f t) where
  end_fetches : (ends : Rows) (label n : ℕ) (o : Option Fetch) → AreEndsFetches w ends → Each (IsFetch w) (fetches_by n o) → AreEndsFetches w (with_end ends label n o)
  end_fetches ends label n None h one l = h l
  end_fetches ends label n (Some x) h one l =
      let row : List Instr = end_at ends label ++ fetch_into n x ∷ [] in
      ⊎_elim (λ a. subst (Each (IsFetch w)) (sym a.1) (each_joined (IsFetch w) (end_at ends label) (fetch_into n x ∷ []) (h label) one)) (λ b. subst (Each (IsFetch w)) (sym b) (h l)) (row_either ends label l row)

  incoming_fetches : (n : ℕ) (ends : Rows) (is : List Incoming) → w.first ≤ n → AreEndsFetches w ends → AreEndsFetches w (ends_of_incoming t n ends is)
  incoming_fetches n ends [] low h = h
  incoming_fetches n ends (i ∷ is) low h =
      incoming_fetches (next_after t n i.value) (with_end ends i.from n (fetch_of t i.value)) is (operand_low w f ok t fetches n i.value low)
      (end_fetches ends i.from n (fetch_of t i.value) h (operand_fetch w f ok t fetches n i.value low))

  phis_fetches : (n : ℕ) (ends : Rows) (ps : List Phi) → w.first ≤ n → AreEndsFetches w ends → AreEndsFetches w (ends_of_phis t n ends ps)
  phis_fetches n ends [] low h = h
  phis_fetches n ends (p ∷ ps) low h =
      let rises : n ≤ next_after_phi t n p = operands_rise 0 t n (map (λ i. i.value) p.incoming) in
      phis_fetches (next_after_phi t n p) (ends_of_incoming t n ends p.incoming) ps (omega (arith, low, rises)) (incoming_fetches n ends p.incoming low h)

  pub blocks_fetches : (n : ℕ) (ends : Rows) (bs : List Block) → w.first ≤ n → AreEndsFetches w ends → AreEndsFetches w (ends_of_blocks t n ends bs)
  blocks_fetches n ends [] low h = h
  blocks_fetches n ends (b ∷ bs) low h =
      let rises : n ≤ next_after_phis t n b.phis = phis_rise 0 t n b.phis in
      blocks_fetches (next_after_phis t n b.phis) (ends_of_phis t n ends b.phis) bs (omega (arith, low, rises)) (phis_fetches n ends b.phis low h)

  pub phis_low : (n : ℕ) (ps : List Phi) → w.first ≤ n → w.first ≤ next_after_phis t n ps
  phis_low n ps low = let rises : n ≤ next_after_phis t n ps = phis_rise 0 t n ps in omega (arith, low, rises)

-- ---- each operand's load stands in its row

module _ (t : List (Option Fetch)) where
  abbrev Grows : Rows → Rows → Type 0
  Grows a b = (l : ℕ) (x : Instr) → IsListed x (end_at a l) → IsListed x (end_at b l)

  end_grows : (ends : Rows) (label n : ℕ) (o : Option Fetch) → Grows ends (with_end ends label n o)
  end_grows ends label n None l x h = h
  end_grows ends label n (Some y) l x h =
      let row : List Instr = end_at ends label ++ fetch_into n y ∷ [] in
      ⊎_elim
      (λ a. subst (λ (r : List Instr). IsListed x r) (sym a.1) (listed_left x (end_at ends label) (fetch_into n y ∷ []) (subst (λ (k : ℕ). IsListed x (end_at ends k)) (sym a.0) h)))
      (λ b. subst (λ (r : List Instr). IsListed x r) (sym b) h)
      (row_either ends label l row)

  incoming_grows : (n : ℕ) (ends : Rows) (is : List Incoming) → Grows ends (ends_of_incoming t n ends is)
  incoming_grows n ends [] l x h = h
  incoming_grows n ends (i ∷ is) l x h = incoming_grows (next_after t n i.value) (with_end ends i.from n (fetch_of t i.value)) is l x (end_grows ends i.from n (fetch_of t i.value) l x h)

  phis_grow : (n : ℕ) (ends : Rows) (ps : List Phi) → Grows ends (ends_of_phis t n ends ps)
  phis_grow n ends [] l x h = h
  phis_grow n ends (p ∷ ps) l x h = phis_grow (next_after_phi t n p) (ends_of_incoming t n ends p.incoming) ps l x (incoming_grows n ends p.incoming l x h)

  blocks_grow : (n : ℕ) (ends : Rows) (bs : List Block) → Grows ends (ends_of_blocks t n ends bs)
  blocks_grow n ends [] l x h = h
  blocks_grow n ends (b ∷ bs) l x h = blocks_grow (next_after_phis t n b.phis) (ends_of_phis t n ends b.phis) bs l x (phis_grow n ends b.phis l x h)

  end_long : (ends : Rows) (label n : ℕ) (o : Option Fetch) → length (with_end ends label n o) ≡ length ends
  end_long ends label n None = refl
  end_long ends label n (Some y) = set_length ends label (end_at ends label ++ fetch_into n y ∷ [])

  incoming_long : (n : ℕ) (ends : Rows) (is : List Incoming) → length (ends_of_incoming t n ends is) ≡ length ends
  incoming_long n ends [] = refl
  incoming_long n ends (i ∷ is) = incoming_long (next_after t n i.value) (with_end ends i.from n (fetch_of t i.value)) is ∙ end_long ends i.from n (fetch_of t i.value)

  phis_long : (n : ℕ) (ends : Rows) (ps : List Phi) → length (ends_of_phis t n ends ps) ≡ length ends
  phis_long n ends [] = refl
  phis_long n ends (p ∷ ps) = phis_long (next_after_phi t n p) (ends_of_incoming t n ends p.incoming) ps ∙ incoming_long n ends p.incoming

  -- what is fetched for a phi's operands stands in the rows of their labels
  abbrev pub AreEnds : Rows → ℕ → List Incoming → Type 0
  AreEnds all n [] = Unit {0}
  AreEnds all n (i ∷ is) = Each (λ x. IsListed x (end_at all i.from)) (fetches_of t n i.value) × AreEnds all (next_after t n i.value) is

  abbrev pub ArePhisEnds : Rows → ℕ → List Phi → Type 0
  ArePhisEnds all n [] = Unit {0}
  ArePhisEnds all n (p ∷ ps) = AreEnds all n p.incoming × ArePhisEnds all (next_after_phi t n p) ps

  abbrev pub AreBlocksEnds : Rows → ℕ → List Block → Type 0
  AreBlocksEnds all n [] = Unit {0}
  AreBlocksEnds all n (b ∷ bs) = ArePhisEnds all n b.phis × AreBlocksEnds all (next_after_phis t n b.phis) bs

  -- labels have rows
  abbrev pub HasRow : ℕ → Incoming → Type 0
  HasRow count i = i.from < count

  end_there : (ends : Rows) (label n : ℕ) (o : Option Fetch) → label < length ends → Each (λ x. IsListed x (end_at (with_end ends label n o) label)) (fetches_by n o)
  end_there ends label n None lt = tt
  end_there ends label n (Some y) lt =
      let row : List Instr = end_at ends label ++ fetch_into n y ∷ [] in
      (subst (λ (r : List Instr). IsListed (fetch_into n y) r) (sym (row_here ends label row lt)) (listed_right (fetch_into n y) (end_at ends label) (fetch_into n y ∷ []) (inl refl)), tt)

  each_grows : (a b : Rows) (l : ℕ) (xs : List Instr) → Grows a b → Each (λ x. IsListed x (end_at a l)) xs → Each (λ x. IsListed x (end_at b l)) xs
  each_grows a b l [] grows h = tt
  each_grows a b l (x ∷ xs) grows h = (grows l x h.0, each_grows a b l xs grows h.1)

  incoming_there : (all : Rows) (count n : ℕ) (ends : Rows) (is : List Incoming) → length ends ≡ count → Each (HasRow count) is → Grows (ends_of_incoming t n ends is) all → AreEnds all n is
  incoming_there all count n ends [] long rows grows = tt
  incoming_there all count n ends (i ∷ is) long rows grows =
      let o : Option Fetch = fetch_of t i.value in
      let now : Rows = with_end ends i.from n o in
      let next : ℕ = next_after t n i.value in
      let lt : i.from < count = rows.0 in (
        each_grows now all i.from (fetches_of t n i.value) (λ l x h. grows l x (incoming_grows next now is l x h)) (end_there ends i.from n o (omega (arith, lt, long))),
        incoming_there all count next now is (end_long ends i.from n o ∙ long) rows.1 grows,
      )

  phis_there : (all : Rows) (count n : ℕ) (ends : Rows) (ps : List Phi) → length ends ≡ count → Each (λ p. Each (HasRow count) p.incoming) ps → Grows (ends_of_phis t n ends ps) all → ArePhisEnds all n ps
  phis_there all count n ends [] long rows grows = tt
  phis_there all count n ends (p ∷ ps) long rows grows =
      let now : Rows = ends_of_incoming t n ends p.incoming in
      let next : ℕ = next_after_phi t n p in (
        incoming_there all count n ends p.incoming long rows.0 (λ l x h. grows l x (phis_grow next now ps l x h)),
        phis_there all count next now ps (incoming_long n ends p.incoming ∙ long) rows.1 grows,
      )

  pub blocks_there : (all : Rows) (count n : ℕ) (ends : Rows) (bs : List Block) → length ends ≡ count → Each (λ b. Each (λ p. Each (HasRow count) p.incoming) b.phis) bs → Grows (ends_of_blocks t n ends bs) all → AreBlocksEnds all n bs
  blocks_there all count n ends [] long rows grows = tt
  blocks_there all count n ends (b ∷ bs) long rows grows =
      let now : Rows = ends_of_phis t n ends b.phis in
      let next : ℕ = next_after_phis t n b.phis in (
        phis_there all count n ends b.phis long rows.0 (λ l x h. grows l x (blocks_grow next now bs l x h)),
        blocks_there all count next now bs (phis_long n ends b.phis ∙ long) rows.1 grows,
      )

  -- ---- each number stands in one row at most

  module _ (n : ℕ) where
    -- of the numbers of a range one row makes it, once
    pub record IsPlaced (first last : ℕ) (ends : Rows) : Type 0 where
      pub label : ℕ
      pub other : (l : ℕ) → (l ≡ label → ⊥) → made_times n (end_at ends l) ≡ 0
      pub here : Adds first last n 0 (made_times n (end_at ends label))

    pub blank_placed : (count first : ℕ) → IsPlaced first first (replicate count [])
    blank_placed count first =
        record {
          label = 0;
          other = λ l ne. ap (made_times n) (blank_row count l);
          here = adds_none first first n 0 (made_times n (end_at (replicate count []) 0)) (ap (made_times n) (blank_row count 0));
        }

    into_times : (k : ℕ) (x : Fetch) → made_times n (fetch_into k x ∷ []) ≡ same_times k n
    into_times k (Fetch.Load ty cell) = omega arith
    into_times k (Fetch.Address base distance) = omega arith

    -- a row counts a number once more, or as before
    row_times : (ends : Rows) (label k l : ℕ) (x : Fetch) → (made_times n (end_at (with_end ends label k (Some x)) l) ≡ made_times n (end_at ends l)) ⊎ ((label ≡ l) × (made_times n (end_at (with_end ends label k (Some x)) l) ≡ made_times n (end_at ends l) + same_times k n))
    row_times ends label k l x =
        let row : List Instr = end_at ends label ++ fetch_into k x ∷ [] in
        ⊎_elim
        (λ a. inr (
          a.0,
          ap (made_times n) a.1
              ∙ made_both n (end_at ends label) (fetch_into k x ∷ [])
              ∙ ap (λ (c : ℕ). made_times n (end_at ends label) + c) (into_times k x)
              ∙ ap (λ (j : ℕ). made_times n (end_at ends j) + same_times k n) a.0,
        ))
        (λ b. inl (ap (made_times n) b))
        (row_either ends label l row)

    -- where nothing is counted yet
    none_yet : (first k : ℕ) (ends : Rows) (h : IsPlaced first k ends) → k ≡ n → (l : ℕ) → made_times n (end_at ends l) ≡ 0
    none_yet first k ends h same l = ⊎_elim (λ e. ap (λ (j : ℕ). made_times n (end_at ends j)) e ∙ zero_here) (h.other l) (either l h.label)
      where
        zero_here : made_times n (end_at ends h.label) ≡ 0
        zero_here =
            let sum : made_times n (end_at ends h.label) ≡ 0 + h.here.extra = h.here.sum in
            ⊎_elim (λ z. omega (arith, sum, z)) (λ o. let high : n < k = o.2 in absurd (omega (arith, high, same))) h.here.within

    end_placed : (first k label : ℕ) (ends : Rows) (o : Option Fetch) → first ≤ k → IsPlaced first k ends → IsPlaced first (next_by k o) (with_end ends label k o)
    end_placed first k label ends None low h = h
    end_placed first k label ends (Some x) low h = ⊎_elim same other (either k n)
      where
        same : k ≡ n → IsPlaced first (k + 1) (with_end ends label k (Some x))
        same e =
            let one : same_times k n ≡ 1 = same_one k n e in
            let old : made_times n (end_at ends label) ≡ 0 = none_yet first k ends h e label in
            record {
              label = label;
              other = λ l ne. ⊎_elim (λ a. a ∙ none_yet first k ends h e l) (λ b. absurd (ne (sym b.0))) (row_times ends label k l x);
              here =
                  ⊎_elim
                  (λ a. adds_none first (k + 1) n 0 (made_times n (end_at (with_end ends label k (Some x)) label)) (a ∙ old))
                  (λ b. let all = b.1 in record { extra = 1; sum = omega (arith, all, old, one); within = inr (refl, omega (arith, low, e), omega (arith, e)) })
                  (row_times ends label k label x);
            }

        other : (k ≡ n → ⊥) → IsPlaced first (k + 1) (with_end ends label k (Some x))
        other ne =
            let none : same_times k n ≡ 0 = other_none k n ne in
            let le : k ≤ k + 1 = omega arith in
            record {
              label = h.label;
              other = λ l away. let z = h.other l away in ⊎_elim (λ a. a ∙ z) (λ b. let all = b.1 in omega (arith, all, z, none)) (row_times ends label k l x);
              here =
                  adds_wider first k first (k + 1) n 0 (made_times n (end_at (with_end ends label k (Some x)) h.label)) (omega arith) le
                  (adds_as first k n 0 (made_times n (end_at ends h.label)) 0 (made_times n (end_at (with_end ends label k (Some x)) h.label)) refl
                  (⊎_elim (λ a. a) (λ b. let all = b.1 in omega (arith, all, none)) (row_times ends label k h.label x)) h.here);
            }

    incoming_placed : (first k : ℕ) (ends : Rows) (is : List Incoming) → first ≤ k → IsPlaced first k ends → IsPlaced first (next_after_all t k (map (λ i. i.value) is)) (ends_of_incoming t k ends is)
    incoming_placed first k ends [] low h = h
    incoming_placed first k ends (i ∷ is) low h =
        let rises : k ≤ next_after t k i.value = by_rise k (fetch_of t i.value) in
        incoming_placed first (next_after t k i.value) (with_end ends i.from k (fetch_of t i.value)) is (omega (arith, low, rises)) (end_placed first k i.from ends (fetch_of t i.value) low h)
      where
        by_rise : (k : ℕ) (o : Option Fetch) → k ≤ next_by k o
        by_rise k None = omega arith
        by_rise k (Some x) = omega arith

    phis_placed : (first k : ℕ) (ends : Rows) (ps : List Phi) → first ≤ k → IsPlaced first k ends → IsPlaced first (next_after_phis t k ps) (ends_of_phis t k ends ps)
    phis_placed first k ends [] low h = h
    phis_placed first k ends (p ∷ ps) low h =
        let rises : k ≤ next_after_phi t k p = operands_rise 0 t k (map (λ i. i.value) p.incoming) in
        phis_placed first (next_after_phi t k p) (ends_of_incoming t k ends p.incoming) ps (omega (arith, low, rises)) (incoming_placed first k ends p.incoming low h)

    pub blocks_placed : (first k : ℕ) (ends : Rows) (bs : List Block) → first ≤ k → IsPlaced first k ends → IsPlaced first (next_after_phis_by t k bs) (ends_of_blocks t k ends bs)
    blocks_placed first k ends [] low h = h
    blocks_placed first k ends (b ∷ bs) low h =
        let rises : k ≤ next_after_phis t k b.phis = phis_rise 0 t k b.phis in
        blocks_placed first (next_after_phis t k b.phis) (ends_of_phis t k ends b.phis) bs (omega (arith, low, rises)) (phis_placed first k ends b.phis low h)

    -- ---- the rows of all blocks, of which no two have one label

    abbrev pub ends_times : Rows → List Block → ℕ
    ends_times ends [] = 0
    ends_times ends (b ∷ bs) = made_times n (end_at ends b.label) + ends_times ends bs

    none_in : (first last : ℕ) (ends : Rows) (bs : List Block) (h : IsPlaced first last ends) → times h.label (row_of block_names bs) ≡ 0 → ends_times ends bs ≡ 0
    none_in first last ends [] h none = refl
    none_in first last ends (b ∷ bs) h none =
        let both = times_joined h.label (block_names b) (row_of block_names bs) in
        let names = names_times h.label b in
        let rest = none_in first last ends bs h (omega (arith, both, none)) in
        let here = h.other b.label (λ e. let one = same_one b.label h.label e in absurd (omega (arith, both, none, names, one))) in
        omega (arith, rest, here)

    pub ends_add : (first last : ℕ) (ends : Rows) (bs : List Block) (h : IsPlaced first last ends) → times h.label (row_of block_names bs) ≤ 1 → Adds first last n 0 (ends_times ends bs)
    ends_add first last ends [] h few = adds_none first last n 0 0 refl
    ends_add first last ends (b ∷ bs) h few = ⊎_elim same (other (ends_add first last ends bs h)) (either b.label h.label)
      where
        both : times h.label (row_of block_names (b ∷ bs)) ≡ times h.label (block_names b) + times h.label (row_of block_names bs)
        both = times_joined h.label (block_names b) (row_of block_names bs)

        same : b.label ≡ h.label → Adds first last n 0 (ends_times ends (b ∷ bs))
        same e =
            let one = same_one b.label h.label e in
            let names = names_times h.label b in
            let rest : ends_times ends bs ≡ 0 = none_in first last ends bs h (omega (arith, both, few, names, one)) in
            let row : made_times n (end_at ends b.label) ≡ made_times n (end_at ends h.label) = ap (λ (l : ℕ). made_times n (end_at ends l)) e in
            adds_as first last n 0 (made_times n (end_at ends h.label)) 0 (ends_times ends (b ∷ bs)) refl (omega (arith, rest, row)) h.here

        other : (times h.label (row_of block_names bs) ≤ 1 → Adds first last n 0 (ends_times ends bs)) → (b.label ≡ h.label → ⊥) → Adds first last n 0 (ends_times ends (b ∷ bs))
        other more ne =
            let none = h.other b.label ne in
            adds_as first last n 0 (ends_times ends bs) 0 (ends_times ends (b ∷ bs)) refl (omega (arith, none)) (more (omega (arith, both, few)))
