-- The copies at begin leave the calls of a coroutine: what is fetched are addresses of loads, stores and copies.
use Rattle.std.proofs.Common.{◌≡◌, ◌⊎◌, inl, inr, ℕ, ◌+◌, ◌<◌, ◌≤◌, Bool, true, false, List, [], ◌∷◌, ◌++◌, length, refl, sym, ap, ◌∙◌, subst, arith, append_assoc}
use Rattle.std.specs.Prelude.{Some, None, Option, map, if◌then◌else◌}
use Rattle.pass_copies.specs.BeginCopies.{after_block, after_instr, after_instrs, begin_copies, behind, block_front, copied_block, copied_blocks, copied_instr, copied_instrs, entry_front, is_fetched, put, puts, slot_allocas}
use Rattle.pass_copies.specs.Uses.{flag_at, is_access, is_begin, still_before}
use Rattle.pass_copies.specs.declared.copying.Copying.{Copying}
use Rattle.pass_copies.specs.declared.slot.EarlySlot.{EarlySlot}
use Rattle.pass_edges_proof.proofs.ir_laws.facts.Members.{each_joined}
use Rattle.pass_edges_proof.proofs.ir_laws.facts.local_rules.Woven.{other_number}
use Rattle.pass_edges_proof.proofs.early.path_rules.SavedSwitches.{times_in}
use Rattle.pass_edges_proof.proofs.edges.shape.Uses.{ends_total}
use Rattle.pass_fetch_proof.proofs.fetch.rules.Puts.{fetch_rises}
use Rattle.pass_fetch_proof.specs.fetch.rules.Fetches.{base_of}
use Rattle.pass_fetch_proof.proofs.fetch.shape.Fetching.{fetches_other, fetches_plain, instr_other}
use Rattle.pass_edges_proof.proofs.rule_laws.rules.shape.Ordered.{HasNoFirstEnd}
use Rattle.pass_edges_proof.proofs.edges.calls.Spared.{AreInstrsOther, AreOther, IsOther, IsSpared}
use Rattle.pass_edges_proof.proofs.edges.calls.Steadily.{IsFirstClear}
use Rattle.pass_edges_proof.proofs.rule_laws.rules.shape.Steady.{AreAllOrdered, Ended, IsAlike, IsBlockKept, IsPlain, Keeps, LeadsAt, behind_first, in_front, row}
use Rattle.pass_edges_proof.proofs.ir_laws.paths.shape.Steady.{AreOrdered, IsOrdered, is_end, is_suspend}
use Rattle.pass_fetch_proof.proofs.cells.shape.Written.{leads_when, still_ahead}
use Rattle.pass_edges_proof.specs.ir_parts.Contents.{ending_operands, instr_operands}
use Rattle.ir_model.specs.declared.instr.Instr.{Instr}
use Rattle.ir_model.specs.declared.module.Block.{Block}
use Rattle.ir_model.specs.declared.operand.Callee.{Callee}
use Rattle.ir_model.specs.declared.operand.Intrinsic.{Intrinsic}
use Rattle.ir_model.specs.declared.operand.Operand.{Operand}
use Rattle.pass_edges_proof.specs.run_laws.changed.Changed.{Each}
use Rattle.pass_edges_proof.specs.pass_fetch.Fetching.{fetch_of, fetches_of_all}
use Rattle.pass_edges_proof.specs.pass_fetch.Instrs.{fetched_instr, next_after_instr, with_fetched}
use Rattle.pass_edges_proof.specs.pass_fetch.declared.fetch.Fetch.{Fetch}
use Rattle.pass_edges_proof.specs.ir_laws.facts.woven_rules.Pairs.{Empty, Pair, Pairwise}

-- ---- what is put in

allocas_plain : (ss : List EarlySlot) → Each IsPlain (slot_allocas ss)
allocas_plain [] = tt
allocas_plain (s ∷ ss) = (λ b at. refl, (λ b at. refl, allocas_plain ss))

cells_plain : (ss : List EarlySlot) → Each IsPlain (map (λ s. put s.temporary s.cell) ss)
cells_plain [] = tt
cells_plain (s ∷ ss) = (λ b at. refl, cells_plain ss)

puts_plain : (ss : List EarlySlot) → Each IsPlain (puts ss)
puts_plain [] = tt
puts_plain (s ∷ ss) = (λ b at. refl, puts_plain ss)

copies_plain : (ss : List EarlySlot) → Each IsPlain (begin_copies ss)
copies_plain [] = tt
copies_plain (s ∷ ss) = (λ b at. refl, (λ b at. refl, copies_plain ss))

pub front_plain : (ss : List EarlySlot) → Each IsPlain (entry_front ss)
front_plain ss = each_joined IsPlain (slot_allocas ss) (map (λ s. put s.temporary s.cell) ss) (allocas_plain ss) (cells_plain ss)

front_of_plain : (c : Copying) (b : Bool) → Each IsPlain (if b then puts c.slots else [])
front_of_plain c true = puts_plain c.slots
front_of_plain c false = tt

behind_plain : (c : Copying) (i : Instr) → Each IsPlain (behind c i)
behind_plain c i = on (is_begin i)
  where
    on : (b : Bool) → Each IsPlain (if b then begin_copies c.slots else [])
    on true = copies_plain c.slots
    on false = tt

-- ---- one instruction

-- one that loads, stores or copies is none of the calls, with what is fetched, too
access_alike : (t : List (Option Fetch)) (n : ℕ) (i : Instr) → is_access i ≡ true → IsAlike i (with_fetched t n i)
access_alike t n (Instr.Load r ty x align) e b at = refl
access_alike t n (Instr.Store a x align) e b at = refl
access_alike t n (Instr.Call r must_tail ty (Callee.Intrinsic Intrinsic.MemcpyI64) args) e b at = refl
access_alike t n (Instr.Call r must_tail ty (Callee.Intrinsic Intrinsic.MemcpyI32) args) e b at = refl
access_alike t n _ e b at = absurd (cc)

access_no_end : (i : Instr) → is_access i ≡ true → is_end i ≡ true → ⊥
access_no_end (Instr.Call r must_tail ty (Callee.Intrinsic Intrinsic.CoroEnd) args) e d = absurd (cc)
access_no_end _ e d = absurd (cc)

fetched_access : (b : Bool) (i : Instr) → is_fetched b i ≡ true → is_access i ≡ true
fetched_access true i e = e
fetched_access false i e = absurd (cc)

suspend_copies : (c : Copying) (i : Instr) → is_suspend i ≡ true → behind c i ≡ []
suspend_copies c (Instr.Call r must_tail ty (Callee.Intrinsic Intrinsic.CoroSuspend) args) e = refl
suspend_copies c _ e = absurd (cc)

module _ (c : Copying) where
  regrouped : (a b d : List Instr) (j : Instr) → ((a ++ (j ∷ [])) ++ b) ++ d ≡ a ++ (j ∷ (b ++ d))
  regrouped a b d j = append_assoc (a ++ (j ∷ [])) b d ∙ append_assoc a (j ∷ []) (b ++ d)

  module _ (V : ℕ → Type 0) where
    one_kept : (ahead : Bool) (at : ℕ) (is_before : Bool) (n : ℕ) (i : Instr) (is more : List Instr) → IsOrdered V at i is → (is_end i ≡ true → ahead ≡ true) → ((l : Bool) → Keeps l is more) → (is ≡ [] → more ≡ []) → Keeps ahead (i ∷ is) (copied_instr c is_before n i ++ more)
    one_kept ahead at is_before n i is more o leads again ended = on (is_fetched is_before i) refl
      where
        nothing : is_suspend i ≡ true → behind c i ++ more ≡ []
        nothing e = λ k. suspend_copies c i e k ++ ended (o.last e) k

        rest : Keeps false is (behind c i ++ more)
        rest = in_front false (behind c i) is more (behind_plain c i) (λ l e. again l)

        on : (b : Bool) → is_fetched is_before i ≡ b → Keeps ahead (i ∷ is) (((if b then fetched_instr c.fetches n i else i ∷ []) ++ behind c i) ++ more)
        on true e =
            let j : Instr = with_fetched c.fetches n i in
            let pre : List Instr = fetches_of_all c.fetches n (instr_operands i) in
            subst (Keeps ahead (i ∷ is)) (sym (regrouped pre (behind c i) more j))
            (row ahead i j is pre (behind c i ++ more) (fetches_plain c.fetches n (instr_operands i)) (access_alike c.fetches n i (fetched_access is_before i e)) (λ d. absurd (access_no_end i (fetched_access is_before i e) d)) nothing rest)
        on false e = row ahead i i is [] (behind c i ++ more) tt (λ x y. refl) (λ d. (refl, leads d)) nothing rest

    instrs_kept : (ahead : Bool) (at : ℕ) (is_before : Bool) (n : ℕ) (is : List Instr) → AreOrdered V at is → LeadsAt ahead is → Keeps ahead is (copied_instrs c is_before n is)
    instrs_kept ahead at is_before n [] o leads = Ended ahead
    instrs_kept ahead at is_before n (i ∷ is) o leads =
        one_kept ahead at is_before n i is (copied_instrs c (still_before is_before i) (after_instr c is_before n i) is) o.0 leads
        (λ l. instrs_kept l (at + 1) (still_before is_before i) (after_instr c is_before n i) is o.1 (behind_first V l at is o.1))
        (λ e. ap (copied_instrs c (still_before is_before i) (after_instr c is_before n i)) e)

    -- ---- a block

    -- no end leads the blocks to which suspends lead
    abbrev pub AreResumedClear : Block → Type 0
    AreResumedClear b = flag_at c.resumed b.label ≡ true → HasNoFirstEnd b.instrs

    front_clear : (b : Block) → AreResumedClear b → (block_front c b.label ≡ []) ⊎ HasNoFirstEnd b.instrs
    front_clear b h = on (flag_at c.resumed b.label) refl
      where
        on : (r : Bool) → flag_at c.resumed b.label ≡ r → ((if r then puts c.slots else []) ≡ []) ⊎ HasNoFirstEnd b.instrs
        on true e = inr (h e)
        on false e = inl refl

    block_kept : (before : List Bool) (front : List Instr) (n : ℕ) (b : Block) → Each IsPlain front → (front ≡ []) ⊎ HasNoFirstEnd b.instrs → AreResumedClear b → AreOrdered V (length b.phis) b.instrs → IsBlockKept V b (copied_block c before front n b)
    block_kept before front n b plain none clear o =
        let here : List Instr = block_front c b.label in
        let all : List Instr = copied_instrs c (flag_at before b.label) n b.instrs in
        record {
          label = refl;
          phis = refl;
          instrs =
              subst (Keeps true b.instrs) (sym (append_assoc front here all))
              (in_front true front b.instrs (here ++ all) plain
              (λ l1 e1. in_front l1 here b.instrs all (front_of_plain c (flag_at c.resumed b.label))
              (λ l2 e2. instrs_kept l2 (length b.phis) (flag_at before b.label) n b.instrs o
              (leads_when l2 b.instrs (still_ahead here b.instrs l1 l2 e2 (front_clear b clear) (still_ahead front b.instrs true l1 e1 none (inl refl)))))));
          term = λ v x. refl;
        }

    later_kept : (before : List Bool) (n : ℕ) (bs : List Block) → Each AreResumedClear bs → AreAllOrdered V bs → Pairwise (IsBlockKept V) bs (copied_blocks c before [] n bs)
    later_kept before n [] clear o = Empty
    later_kept before n (b ∷ bs) clear o = Pair b (copied_block c before [] n b) bs (copied_blocks c before [] (after_block c before n b) bs) (block_kept before [] n b tt (inl refl) clear.0 o.0) (later_kept before (after_block c before n b) bs clear.1 o.1)

    pub all_kept : (before : List Bool) (front : List Instr) (n : ℕ) (bs : List Block) → Each IsPlain front → IsFirstClear bs → Each AreResumedClear bs → AreAllOrdered V bs → Pairwise (IsBlockKept V) bs (copied_blocks c before front n bs)
    all_kept before front n [] plain no_end clear o = Empty
    all_kept before front n (b ∷ bs) plain no_end clear o = Pair b (copied_block c before front n b) bs (copied_blocks c before [] (after_block c before n b) bs) (block_kept before front n b plain (inr no_end) clear.0 o.0) (later_kept before (after_block c before n b) bs clear.1 o.1)

  -- ---- a value that is neither a slot nor new

  abbrev pub IsApartFrom : ℕ → EarlySlot → Type 0
  IsApartFrom v s = (s.slot ≡ v → ⊥) × ((s.temporary ≡ v → ⊥) × (s.cell ≡ v → ⊥))

  module _ (first v : ℕ) (low : v < first) (free : fetch_of c.fetches (Operand.Local v) ≡ None) (based : (u : ℕ) (x : Fetch) → fetch_of c.fetches (Operand.Local u) ≡ Some x → base_of x ≡ v → ⊥) (apart : Each (IsApartFrom v) c.slots) where
    abbrev Joined : (xs ys : List Instr) → AreInstrsOther v xs → AreInstrsOther v ys → AreInstrsOther v (xs ++ ys)
    Joined xs ys h k = each_joined (λ (i : Instr). AreOther v (instr_operands i)) xs ys h k

    local_other : (u : ℕ) → (u ≡ v → ⊥) → IsOther v (Operand.Local u)
    local_other u h = other_number v u (λ e. h (sym e))

    allocas_other : (ss : List EarlySlot) → AreInstrsOther v (slot_allocas ss)
    allocas_other [] = tt
    allocas_other (s ∷ ss) = (tt, (tt, allocas_other ss))

    cells_other : (ss : List EarlySlot) → Each (IsApartFrom v) ss → AreInstrsOther v (map (λ s. put s.temporary s.cell) ss)
    cells_other [] h = tt
    cells_other (s ∷ ss) h = ((local_other s.temporary h.0.1.0, (local_other s.cell h.0.1.1, tt)), cells_other ss h.1)

    puts_other : (ss : List EarlySlot) → Each (IsApartFrom v) ss → AreInstrsOther v (puts ss)
    puts_other [] h = tt
    puts_other (s ∷ ss) h = ((local_other s.slot h.0.0, (local_other s.cell h.0.1.1, tt)), puts_other ss h.1)

    copies_other : (ss : List EarlySlot) → Each (IsApartFrom v) ss → AreInstrsOther v (begin_copies ss)
    copies_other [] h = tt
    copies_other (s ∷ ss) h = ((local_other s.slot h.0.0, (local_other s.temporary h.0.1.0, (refl, (refl, tt)))), ((local_other s.slot h.0.0, (local_other s.cell h.0.1.1, tt)), copies_other ss h.1))

    pub front_other : AreInstrsOther v (entry_front c.slots)
    front_other = Joined (slot_allocas c.slots) (map (λ s. put s.temporary s.cell) c.slots) (allocas_other c.slots) (cells_other c.slots apart)

    here_other : (b : Bool) → AreInstrsOther v (if b then puts c.slots else [])
    here_other true = puts_other c.slots apart
    here_other false = tt

    behind_other : (b : Bool) → AreInstrsOther v (if b then begin_copies c.slots else [])
    behind_other true = copies_other c.slots apart
    behind_other false = tt

    one_other : (n : ℕ) (i : Instr) (b : Bool) → first ≤ n → AreOther v (instr_operands i) → AreInstrsOther v (if b then fetched_instr c.fetches n i else i ∷ [])
    one_other n i true up h = Joined (fetches_of_all c.fetches n (instr_operands i)) (with_fetched c.fetches n i ∷ []) (fetches_other c.fetches first v low free based n (instr_operands i)) (instr_other c.fetches first v low free based n i up h, tt)
    one_other n i false up h = (h, tt)

    after_rises : (n : ℕ) (i : Instr) (b : Bool) → n ≤ (if b then next_after_instr c.fetches n i else n)
    after_rises n i true = fetch_rises c.fetches n (instr_operands i)
    after_rises n i false = omega arith

    instrs_other : (is_before : Bool) (n : ℕ) (is : List Instr) → first ≤ n → AreInstrsOther v is → AreInstrsOther v (copied_instrs c is_before n is)
    instrs_other is_before n [] up h = tt
    instrs_other is_before n (i ∷ is) up h =
        let next : ℕ = after_instr c is_before n i in
        let more : n ≤ next = after_rises n i (is_fetched is_before i) in
        Joined (copied_instr c is_before n i) (copied_instrs c (still_before is_before i) next is)
        (Joined (if is_fetched is_before i then fetched_instr c.fetches n i else i ∷ []) (behind c i) (one_other n i (is_fetched is_before i) up h.0) (behind_other (is_begin i)))
        (instrs_other (still_before is_before i) next is (omega (arith, up, more)) h.1)

    instrs_rise : (is_before : Bool) (n : ℕ) (is : List Instr) → n ≤ after_instrs c is_before n is
    instrs_rise is_before n [] = omega arith
    instrs_rise is_before n (i ∷ is) =
        let next : ℕ = after_instr c is_before n i in
        let a : n ≤ next = after_rises n i (is_fetched is_before i) in
        let b : next ≤ after_instrs c (still_before is_before i) next is = instrs_rise (still_before is_before i) next is in
        omega (arith, a, b)

    pub blocks_other : (before : List Bool) (front : List Instr) (n : ℕ) (bs : List Block) → AreInstrsOther v front → first ≤ n → Each (IsSpared v) bs → Each (IsSpared v) (copied_blocks c before front n bs)
    blocks_other before front n [] ahead up h = tt
    blocks_other before front n (b ∷ bs) ahead up h =
        let all : List Instr = copied_instrs c (flag_at before b.label) n b.instrs in
        let more : n ≤ after_block c before n b = instrs_rise (flag_at before b.label) n b.instrs in (
          record {
            phis = h.0.phis;
            instrs = Joined (front ++ block_front c b.label) all (Joined front (block_front c b.label) ahead (here_other (flag_at c.resumed b.label))) (instrs_other (flag_at before b.label) n b.instrs up h.0.instrs);
          },
          blocks_other before [] (after_block c before n b) bs tt (omega (arith, up, more)) h.1,
        )

  pub copied_ends : (v : ℕ) (before : List Bool) (front : List Instr) (n : ℕ) (bs : List Block) → ends_total v (copied_blocks c before front n bs) ≡ ends_total v bs
  copied_ends v before front n [] = refl
  copied_ends v before front n (b ∷ bs) = λ k. times_in v (ending_operands b.term) + copied_ends v before [] (after_block c before n b) bs k
