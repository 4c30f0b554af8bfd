-- A function whose operands are fetched has the calls by which it is a coroutine, where none of their operands is fetched.
use Rattle.std.proofs.Common.{◌≡◌, inl, inr, ℕ, zero, suc, ◌+◌, ◌<◌, ◌≤◌, Bool, true, false, List, [], ◌∷◌, ◌++◌, length, refl, sym, ap, ◌∙◌, subst, arith, append_assoc}
use Rattle.std.specs.Prelude.{Some, None, Option, cond, map, replicate, slice_get, slice_set, unwrap_or, if◌then◌else◌, ◌&&◌}
use Rattle.pass_edges_proof.specs.rule_shape.Switches.{are_both}
use Rattle.pass_edges_proof.proofs.ir_laws.facts.Lists.{set_other}
use Rattle.pass_edges_proof.proofs.ir_laws.facts.Members.{each_joined}
use Rattle.pass_edges_proof.proofs.ir_laws.facts.local_rules.Woven.{other_number}
use Rattle.pass_edges_proof.proofs.early.path_rules.SavedSwitches.{times_in, times_more}
use Rattle.pass_edges_proof.proofs.edges.shape.Uses.{ends_total}
use Rattle.pass_fetch_proof.proofs.fetch.rules.Ends.{phis_rise}
use Rattle.pass_fetch_proof.proofs.fetch.rules.Fetched.{block_rises, instrs_rise}
use Rattle.pass_fetch_proof.proofs.fetch.rules.Puts.{fetch_rises}
use Rattle.pass_fetch_proof.specs.fetch.rules.Fetches.{AreUnfetched, base_of}
use Rattle.pass_edges_proof.specs.flow_solver.Paths.{IsListed}
use Rattle.pass_fetch_proof.proofs.fetch.shape.Held.{IsHeldInstr}
use Rattle.pass_edges_proof.proofs.edges.calls.Spared.{AreInstrsOther, AreOther, ArePhisOther, IsOther, IsSpared}
use Rattle.pass_edges_proof.proofs.rule_laws.rules.shape.Steady.{AreAllOrdered, IsBlockKept, IsPlain, Keeps, LeadsAt, all_put, behind_first, first_leads, row}
use Rattle.pass_edges_proof.proofs.ir_laws.paths.shape.Steady.{AreOrdered, is_suspend}
use Rattle.pass_edges_proof.specs.ir_parts.Contents.{arg_operands, callee_operands, ending_operands, instr_operands}
use Rattle.ir_model.specs.Names.{is_local}
use Rattle.ir_model.specs.declared.instr.Incoming.{Incoming}
use Rattle.ir_model.specs.declared.instr.Instr.{Instr}
use Rattle.ir_model.specs.declared.instr.Phi.{Phi}
use Rattle.ir_model.specs.declared.instr.Terminator.{Terminator}
use Rattle.ir_model.specs.declared.module.Block.{Block}
use Rattle.ir_model.specs.declared.operand.Arg.{Arg}
use Rattle.ir_model.specs.declared.operand.Callee.{Callee}
use Rattle.ir_model.specs.declared.operand.Operand.{Operand}
use Rattle.pass_edges_proof.specs.run_laws.changed.Changed.{Each}
use Rattle.pass_edges_proof.specs.pass_fetch.Blocks.{end_at, ends_of_blocks, ends_of_incoming, ends_of_phis, fetched_block, fetched_blocks, fetched_incoming, fetched_phis, next_after_block, next_after_phi, next_after_phis, with_end}
use Rattle.pass_edges_proof.specs.pass_fetch.Fetching.{callee_by, fetch_at, fetch_into, fetch_of, fetched_args, fetched_operand, fetches_by, fetches_of, fetches_of_all, next_after, next_by, operand_by}
use Rattle.pass_edges_proof.specs.pass_fetch.Instrs.{fetched_instr, fetched_instrs, fetched_term, next_after_instr, next_after_instrs, term_operands, with_fetched}
use Rattle.pass_edges_proof.specs.pass_fetch.declared.fetch.Fetch.{Fetch}
use Rattle.pass_edges_proof.specs.ir_laws.facts.woven_rules.Pairs.{Empty, Pair, Pairwise}
use Rattle.pass_edges_proof.specs.rule_laws.rules.woven_shape.Calls.{default_on}

-- ---- what is fetched

-- no phi of the block names the label
abbrev pub IsNotFrom : ℕ → Block → Type 0
IsNotFrom l b = Each (λ (p : Phi). Each (λ (i : Incoming). i.from ≡ l → ⊥) p.incoming) b.phis

pub fetch_plain : (n : ℕ) (x : Fetch) → IsPlain (fetch_into n x)
fetch_plain n (Fetch.Load ty cell) b at = refl
fetch_plain n (Fetch.Address base distance) b at = refl

module _ (t : List (Option Fetch)) where
  by_plain : (n : ℕ) (o : Option Fetch) → Each IsPlain (fetches_by n o)
  by_plain n None = tt
  by_plain n (Some x) = (fetch_plain n x, tt)

  pub fetches_plain : (n : ℕ) (xs : List Operand) → Each IsPlain (fetches_of_all t n xs)
  fetches_plain n [] = tt
  fetches_plain n (x ∷ xs) = each_joined IsPlain (fetches_of t n x) (fetches_of_all t (next_after t n x) xs) (by_plain n (fetch_of t x)) (fetches_plain (next_after t n x) xs)

  pub none_fetched : (n : ℕ) (xs : List Operand) → AreUnfetched t xs → fetches_of_all t n xs ≡ []
  none_fetched n [] h = refl
  none_fetched n (x ∷ xs) h = (λ k. fetches_by n (h.0 k) ++ fetches_of_all t (next_by n (h.0 k)) xs) ∙ none_fetched n xs h.1

  -- ---- what is fetched for phis at the ends of blocks

  module _ (P : Instr → Type 0) (one : (n : ℕ) (x : Operand) (y : Fetch) → fetch_of t x ≡ Some y → P (fetch_into n y)) where
    set_each : (xs : List (List Instr)) (k : ℕ) (ys : List Instr) → Each P ys → ((l : ℕ) → Each P (end_at xs l)) → (l : ℕ) → Each P (end_at (slice_set xs k ys) l)
    set_each [] k ys py h l = h l
    set_each (x ∷ xs) zero ys py h zero = py
    set_each (x ∷ xs) zero ys py h (suc l) = h (suc l)
    set_each (x ∷ xs) (suc k) ys py h zero = h zero
    set_each (x ∷ xs) (suc k) ys py h (suc l) = set_each xs k ys py (λ j. h (suc j)) l

    end_each : (ends : List (List Instr)) (label n : ℕ) (x : Operand) (o : Option Fetch) → fetch_of t x ≡ o → ((l : ℕ) → Each P (end_at ends l)) → (l : ℕ) → Each P (end_at (with_end ends label n o) l)
    end_each ends label n x None e h = h
    end_each ends label n x (Some y) e h = set_each ends label (end_at ends label ++ fetch_into n y ∷ []) (each_joined P (end_at ends label) (fetch_into n y ∷ []) (h label) (one n x y e, tt)) h

    incoming_each : (n : ℕ) (ends : List (List Instr)) (is : List Incoming) → ((l : ℕ) → Each P (end_at ends l)) → (l : ℕ) → Each P (end_at (ends_of_incoming t n ends is) l)
    incoming_each n ends [] h = h
    incoming_each n ends (i ∷ is) h = incoming_each (next_after t n i.value) (with_end ends i.from n (fetch_of t i.value)) is (end_each ends i.from n i.value (fetch_of t i.value) refl h)

    phis_each : (n : ℕ) (ends : List (List Instr)) (ps : List Phi) → ((l : ℕ) → Each P (end_at ends l)) → (l : ℕ) → Each P (end_at (ends_of_phis t n ends ps) l)
    phis_each n ends [] h = h
    phis_each n ends (p ∷ ps) h = phis_each (next_after_phi t n p) (ends_of_incoming t n ends p.incoming) ps (incoming_each n ends p.incoming h)

    pub ends_each : (n : ℕ) (ends : List (List Instr)) (bs : List Block) → ((l : ℕ) → Each P (end_at ends l)) → (l : ℕ) → Each P (end_at (ends_of_blocks t n ends bs) l)
    ends_each n ends [] h = h
    ends_each n ends (b ∷ bs) h = ends_each (next_after_phis t n b.phis) (ends_of_phis t n ends b.phis) bs (phis_each n ends b.phis h)

  pub no_rows : (P : Instr → Type 0) (n l : ℕ) → Each P (end_at (replicate n []) l)
  no_rows P zero l = tt
  no_rows P (suc n) zero = tt
  no_rows P (suc n) (suc l) = no_rows P n l

  module _ (l : ℕ) where
    end_other : (ends : List (List Instr)) (label n : ℕ) (o : Option Fetch) → (label ≡ l → ⊥) → end_at (with_end ends label n o) l ≡ end_at ends l
    end_other ends label n None h = refl
    end_other ends label n (Some y) h = ap (λ (r : Option (List Instr)). unwrap_or r []) (set_other ends label l (end_at ends label ++ fetch_into n y ∷ []) h)

    incoming_other : (n : ℕ) (ends : List (List Instr)) (is : List Incoming) → Each (λ (i : Incoming). i.from ≡ l → ⊥) is → end_at (ends_of_incoming t n ends is) l ≡ end_at ends l
    incoming_other n ends [] h = refl
    incoming_other n ends (i ∷ is) h = incoming_other (next_after t n i.value) (with_end ends i.from n (fetch_of t i.value)) is h.1 ∙ end_other ends i.from n (fetch_of t i.value) h.0

    phis_other : (n : ℕ) (ends : List (List Instr)) (ps : List Phi) → Each (λ (p : Phi). Each (λ (i : Incoming). i.from ≡ l → ⊥) p.incoming) ps → end_at (ends_of_phis t n ends ps) l ≡ end_at ends l
    phis_other n ends [] h = refl
    phis_other n ends (p ∷ ps) h = phis_other (next_after_phi t n p) (ends_of_incoming t n ends p.incoming) ps h.1 ∙ incoming_other n ends p.incoming h.0

    pub ends_other : (n : ℕ) (ends : List (List Instr)) (bs : List Block) → Each (IsNotFrom l) bs → end_at (ends_of_blocks t n ends bs) l ≡ end_at ends l
    ends_other n ends [] h = refl
    ends_other n ends (b ∷ bs) h = ends_other (next_after_phis t n b.phis) (ends_of_phis t n ends b.phis) bs h.1 ∙ phis_other n ends b.phis h.0

    pub rows_none : (n : ℕ) → end_at (replicate n []) l ≡ []
    rows_none n = none n l
      where
        none : (n j : ℕ) → end_at (replicate n []) j ≡ []
        none zero j = refl
        none (suc n) zero = refl
        none (suc n) (suc j) = none n j

  -- ---- the instructions of a block

  abbrev is_kept : List Instr → List Instr → Type 0
  is_kept is tail = (i : Instr) → IsListed i is → is_suspend i ≡ true → tail ≡ []

  regrouped : (a b c : List Instr) (j : Instr) → ((a ++ (j ∷ [])) ++ b) ++ c ≡ a ++ (j ∷ (b ++ c))
  regrouped a b c j = append_assoc (a ++ (j ∷ [])) b c ∙ append_assoc a (j ∷ []) (b ++ c)

  instrs_kept : (V : ℕ → Type 0) (ahead : Bool) (at n : ℕ) (is tail : List Instr) → AreOrdered V at is → LeadsAt ahead is → Each (IsHeldInstr t) is → Each IsPlain tail → is_kept is tail → Keeps ahead is (fetched_instrs t n is ++ tail)
  instrs_kept V ahead at n [] tail o leads held plain none = all_put ahead tail plain
  instrs_kept V ahead at n (i ∷ is) tail o leads held plain none =
      let pre : List Instr = fetches_of_all t n (instr_operands i) in
      let j : Instr = with_fetched t n i in
      let more : List Instr = fetched_instrs t (next_after_instr t n i) is in
      subst (Keeps ahead (i ∷ is)) (sym (regrouped pre more tail j))
      (row ahead i j is pre (more ++ tail) (fetches_plain n (instr_operands i)) (held.0.alike n)
      (λ e. (none_fetched n (instr_operands i) (held.0.front e), leads e))
      (λ e. (λ k. fetched_instrs t (next_after_instr t n i) (o.0.last e k) ++ none i (inl refl) e k))
      (instrs_kept V false (at + 1) (next_after_instr t n i) is tail o.1 (behind_first V false at is o.1) held.1 plain (λ x l. none x (inr l))))

  -- ---- values that aren't fetched, and by which nothing is

  module _ (first v : ℕ) (low : v < first) (free : fetch_of t (Operand.Local v) ≡ None) (based : (u : ℕ) (x : Fetch) → fetch_of t (Operand.Local u) ≡ Some x → base_of x ≡ v → ⊥) where
    local_same : (n : ℕ) (x : Operand) → first ≤ n → is_local v (fetched_operand t n x) ≡ is_local v x
    local_same n (Operand.Local u) up = on (fetch_of t (Operand.Local u)) refl
      where
        on : (o : Option Fetch) → fetch_of t (Operand.Local u) ≡ o → is_local v (operand_by n o (Operand.Local u)) ≡ is_local v (Operand.Local u)
        on None e = refl
        on (Some y) e =
            other_number v n (λ s. absurd (omega (arith, s, low, up)))
            ∙ sym (other_number v u (λ s. let no : None ≡ Some y = sym free ∙ ap (λ (w : ℕ). fetch_of t (Operand.Local w)) s ∙ e in absurd (cc)))
    local_same n _ up = refl

    operand_other : (n : ℕ) (x : Operand) → first ≤ n → IsOther v x → IsOther v (fetched_operand t n x)
    operand_other n x up h = local_same n x up ∙ h

    rises : (n : ℕ) (x : Operand) → n ≤ next_after t n x
    rises n x = fetch_rises t n (x ∷ [])

    args_other : (n : ℕ) (args : List Arg) → first ≤ n → AreOther v (arg_operands args) → AreOther v (arg_operands (fetched_args t n args))
    args_other n [] up h = tt
    args_other n (a ∷ args) up h = let more : n ≤ next_after t n a.value = rises n a.value in (operand_other n a.value up h.0, args_other (next_after t n a.value) args (omega (arith, up, more)) h.1)

    called_other : (n u : ℕ) (o : Option Fetch) → fetch_at (slice_get t u) ≡ o → first ≤ n → IsOther v (Operand.Local u) → AreOther v (callee_operands (callee_by n o (Callee.Local u)))
    called_other n u None e up h = (h, tt)
    called_other n u (Some y) e up h = (other_number v n (λ s. absurd (omega (arith, s, low, up))), tt)

    pub instr_other : (n : ℕ) (i : Instr) → first ≤ n → AreOther v (instr_operands i) → AreOther v (instr_operands (with_fetched t n i))
    instr_other n (Instr.Binary r op flags ty a b) up h = let more : n ≤ next_after t n a = rises n a in (operand_other n a up h.0, (operand_other (next_after t n a) b (omega (arith, up, more)) h.1.0, tt))
    instr_other n (Instr.Icmp r pred ty a b) up h = let more : n ≤ next_after t n a = rises n a in (operand_other n a up h.0, (operand_other (next_after t n a) b (omega (arith, up, more)) h.1.0, tt))
    instr_other n (Instr.Select r c a b) up h =
        let n1 : ℕ = next_after t n c in
        let one : n ≤ n1 = rises n c in
        let two : n1 ≤ next_after t n1 a.value = rises n1 a.value in
        (operand_other n c up h.0, (operand_other n1 a.value (omega (arith, up, one)) h.1.0, (operand_other (next_after t n1 a.value) b.value (omega (arith, up, one, two)) h.1.1.0, tt)))
    instr_other n (Instr.Cast r op nneg a to) up h = (operand_other n a.value up h.0, tt)
    instr_other n (Instr.Alloca r ty align) up h = tt
    instr_other n (Instr.Load r ty x align) up h = (operand_other n x up h.0, tt)
    instr_other n (Instr.Store a x align) up h = let more : n ≤ next_after t n a.value = rises n a.value in (operand_other n a.value up h.0, (operand_other (next_after t n a.value) x (omega (arith, up, more)) h.1.0, tt))
    instr_other n (Instr.Gep r inbounds ty x args) up h = let more : n ≤ next_after t n x = rises n x in (operand_other n x up h.0, args_other (next_after t n x) args (omega (arith, up, more)) h.1)
    instr_other n (Instr.Call r must_tail ty (Callee.Named c) args) up h = args_other n args up h
    instr_other n (Instr.Call r must_tail ty (Callee.Allocator c) args) up h = args_other n args up h
    instr_other n (Instr.Call r must_tail ty (Callee.Intrinsic c) args) up h = args_other n args up h
    instr_other n (Instr.Call r must_tail ty (Callee.Local u) args) up h =
        let more : n ≤ next_after t n (Operand.Local u) = rises n (Operand.Local u) in
        each_joined (IsOther v) (callee_operands (callee_by n (fetch_at (slice_get t u)) (Callee.Local u))) (arg_operands (fetched_args t (next_after t n (Operand.Local u)) args))
        (called_other n u (fetch_at (slice_get t u)) refl up h.0)
        (args_other (next_after t n (Operand.Local u)) args (omega (arith, up, more)) h.1)

    into_other : (n : ℕ) (y : Fetch) → (base_of y ≡ v → ⊥) → AreOther v (instr_operands (fetch_into n y))
    into_other n (Fetch.Load ty cell) h = (other_number v cell (λ s. h (sym s)), tt)
    into_other n (Fetch.Address base distance) h = (other_number v base (λ s. h (sym s)), (refl, tt))

    pub fetched_other : (n : ℕ) (x : Operand) (y : Fetch) → fetch_of t x ≡ Some y → AreOther v (instr_operands (fetch_into n y))
    fetched_other n (Operand.Local u) y e = into_other n y (based u y e)
    fetched_other n _ y e = absurd (cc)

    pub fetches_other : (n : ℕ) (xs : List Operand) → AreInstrsOther v (fetches_of_all t n xs)
    fetches_other n [] = tt
    fetches_other n (x ∷ xs) =
        each_joined (λ (i : Instr). AreOther v (instr_operands i)) (fetches_of t n x) (fetches_of_all t (next_after t n x) xs) (on (fetch_of t x) refl) (fetches_other (next_after t n x) xs)
      where
        on : (o : Option Fetch) → fetch_of t x ≡ o → AreInstrsOther v (fetches_by n o)
        on None e = tt
        on (Some y) e = (fetched_other n x y e, tt)

    pub instrs_other : (n : ℕ) (is : List Instr) → first ≤ n → AreInstrsOther v is → AreInstrsOther v (fetched_instrs t n is)
    instrs_other n [] up h = tt
    instrs_other n (i ∷ is) up h =
        let next : ℕ = next_after_instr t n i in
        let more : n ≤ next = fetch_rises t n (instr_operands i) in
        each_joined (λ (j : Instr). AreOther v (instr_operands j)) (fetched_instr t n i) (fetched_instrs t next is)
        (each_joined (λ (j : Instr). AreOther v (instr_operands j)) (fetches_of_all t n (instr_operands i)) (with_fetched t n i ∷ []) (fetches_other n (instr_operands i)) (instr_other n i up h.0, tt))
        (instrs_other next is (omega (arith, up, more)) h.1)

    incoming_fetched : (n : ℕ) (is : List Incoming) → first ≤ n → Each (λ (i : Incoming). IsOther v i.value) is → Each (λ (i : Incoming). IsOther v i.value) (fetched_incoming t n is)
    incoming_fetched n [] up h = tt
    incoming_fetched n (i ∷ is) up h = let more : n ≤ next_after t n i.value = rises n i.value in (operand_other n i.value up h.0, incoming_fetched (next_after t n i.value) is (omega (arith, up, more)) h.1)

    phis_fetched : (n : ℕ) (ps : List Phi) → first ≤ n → ArePhisOther v ps → ArePhisOther v (fetched_phis t n ps)
    phis_fetched n [] up h = tt
    phis_fetched n (p ∷ ps) up h =
        let more : n ≤ next_after_phi t n p = fetch_rises t n (map (λ (i : Incoming). i.value) p.incoming) in
        (incoming_fetched n p.incoming up h.0, phis_fetched (next_after_phi t n p) ps (omega (arith, up, more)) h.1)

    one_same : (n : ℕ) (x : Operand) (xs : List Operand) → first ≤ n → times_in v (fetched_operand t n x ∷ xs) ≡ times_in v (x ∷ xs)
    one_same n x xs up = times_more v (fetched_operand t n x) xs ∙ (λ k. cond (local_same n x up k) 1 0 + times_in v xs) ∙ sym (times_more v x xs)

    pub term_same : (n : ℕ) (e : Terminator) → first ≤ n → times_in v (ending_operands (fetched_term t n e)) ≡ times_in v (ending_operands e)
    term_same n (Terminator.Jump label) up = refl
    term_same n (Terminator.Branch c a b) up = one_same n c [] up
    term_same n (Terminator.Switch arg default cases) up = one_same n arg.value (map (λ k. k.arg.value) cases) up
    term_same n (Terminator.Ret None) up = refl
    term_same n (Terminator.Ret (Some a)) up = one_same n a.value [] up
    term_same n Terminator.Unreachable up = refl

    pub default_same : (n : ℕ) (e : Terminator) → first ≤ n → default_on v (fetched_term t n e) ≡ default_on v e
    default_same n (Terminator.Jump label) up = refl
    default_same n (Terminator.Branch c a b) up = refl
    default_same n (Terminator.Switch arg default cases) up = ap (λ (b : Bool). if b && are_both cases then Some default else None) (local_same n arg.value up)
    default_same n (Terminator.Ret value) up = refl
    default_same n Terminator.Unreachable up = refl

    -- ---- blocks

    blocks_spared : (ends : List (List Instr)) → ((l : ℕ) → AreInstrsOther v (end_at ends l)) → (p n : ℕ) (bs : List Block) → first ≤ p → first ≤ n → Each (IsSpared v) bs → Each (IsSpared v) (fetched_blocks t ends p n bs)
    blocks_spared ends rows p n [] low_p low_n h = tt
    blocks_spared ends rows p n (b ∷ bs) low_p low_n h =
        let last : ℕ = next_after_instrs t n b.instrs in
        let front : List Instr = fetched_instrs t n b.instrs in
        let back : List Instr = fetches_of_all t last (term_operands b.term) in
        let more_p : p ≤ next_after_phis t p b.phis = phis_rise t p b.phis in
        let more_n : n ≤ next_after_block t n b = block_rises t n b in (
          record {
            phis = phis_fetched p b.phis low_p h.0.phis;
            instrs =
                each_joined (λ (i : Instr). AreOther v (instr_operands i)) (front ++ end_at ends b.label) back
                (each_joined (λ (i : Instr). AreOther v (instr_operands i)) front (end_at ends b.label) (instrs_other n b.instrs low_n h.0.instrs) (rows b.label))
                (fetches_other last (term_operands b.term));
          },
          blocks_spared ends rows (next_after_phis t p b.phis) (next_after_block t n b) bs (omega (arith, low_p, more_p)) (omega (arith, low_n, more_n)) h.1,
        )

    pub all_spared : (p0 p n : ℕ) (all bs : List Block) → first ≤ p → first ≤ n → Each (IsSpared v) bs → Each (IsSpared v) (fetched_blocks t (ends_of_blocks t p0 (replicate p0 []) all) p n bs)
    all_spared p0 p n all bs low_p low_n h = blocks_spared (ends_of_blocks t p0 (replicate p0 []) all) (ends_each (λ (i : Instr). AreOther v (instr_operands i)) fetched_other p0 (replicate p0 []) all (no_rows (λ (i : Instr). AreOther v (instr_operands i)) p0)) p n bs low_p low_n h

    pub ends_same : (ends : List (List Instr)) (p n : ℕ) (bs : List Block) → first ≤ n → ends_total v (fetched_blocks t ends p n bs) ≡ ends_total v bs
    ends_same ends p n [] up = refl
    ends_same ends p n (b ∷ bs) up =
        let a : n ≤ next_after_instrs t n b.instrs = instrs_rise t n b.instrs in
        let c : n ≤ next_after_block t n b = block_rises t n b in
        λ k. term_same (next_after_instrs t n b.instrs) b.term (omega (arith, up, a)) k + ends_same ends (next_after_phis t p b.phis) (next_after_block t n b) bs (omega (arith, up, c)) k

  -- ---- the calls of blocks

  -- behind a suspend nothing is fetched
  pub record IsHeldBlock (ends : List (List Instr)) (b : Block) : Type 0 where
    pub instrs : Each (IsHeldInstr t) b.instrs
    pub row_none : (i : Instr) → IsListed i b.instrs → is_suspend i ≡ true → end_at ends b.label ≡ []
    pub term_free : (i : Instr) → IsListed i b.instrs → is_suspend i ≡ true → AreUnfetched t (term_operands b.term)

  phis_long : (n : ℕ) (ps : List Phi) → length (fetched_phis t n ps) ≡ length ps
  phis_long n [] = refl
  phis_long n (p ∷ ps) = ap suc (phis_long (next_after_phi t n p) ps)

  module _ (V : ℕ → Type 0) (first : ℕ) (default_stays : (v n : ℕ) (e : Terminator) → V v → first ≤ n → default_on v (fetched_term t n e) ≡ default_on v e) (ends : List (List Instr)) (plain : (l : ℕ) → Each IsPlain (end_at ends l)) where
    block_kept : (p n : ℕ) (b : Block) → first ≤ n → AreOrdered V (length b.phis) b.instrs → IsHeldBlock ends b → IsBlockKept V b (fetched_block t ends p n b)
    block_kept p n b up o h =
        let last : ℕ = next_after_instrs t n b.instrs in
        let front : List Instr = fetched_instrs t n b.instrs in
        let es : List Instr = end_at ends b.label in
        let back : List Instr = fetches_of_all t last (term_operands b.term) in
        let more : n ≤ last = instrs_rise t n b.instrs in
        record {
          label = refl;
          phis = phis_long p b.phis;
          instrs =
              subst (Keeps true b.instrs) (sym (append_assoc front es back))
              (instrs_kept V true (length b.phis) n b.instrs (es ++ back) o (first_leads b.instrs) h.instrs
              (each_joined IsPlain es back (plain b.label) (fetches_plain last (term_operands b.term)))
              (λ i l e. (λ k. h.row_none i l e k ++ none_fetched last (term_operands b.term) (h.term_free i l e) k)));
          term = λ v x. default_stays v last b.term x (omega (arith, up, more));
        }

    pub blocks_kept : (p n : ℕ) (bs : List Block) → first ≤ n → AreAllOrdered V bs → Each (IsHeldBlock ends) bs → Pairwise (IsBlockKept V) bs (fetched_blocks t ends p n bs)
    blocks_kept p n [] up o h = Empty
    blocks_kept p n (b ∷ bs) up o h =
        let more : n ≤ next_after_block t n b = block_rises t n b in
        Pair b (fetched_block t ends p n b) bs (fetched_blocks t ends (next_after_phis t p b.phis) (next_after_block t n b) bs)
        (block_kept p n b up o.0 h.0)
        (blocks_kept (next_after_phis t p b.phis) (next_after_block t n b) bs (omega (arith, up, more)) o.1 h.1)
