-- Where each step of the framed run is followed in the parts, from states that know something more and to such states,
-- the runs agree by what their steps cost.
use Rattle.std.proofs.Common.{◌≡◌, ℕ, zero, suc, ◌+◌, ◌-◌, ◌<◌, ◌≤◌, ◌⊎◌, inl, inr, ⊎_elim, List, map, refl, sym, ap, ◌∙◌, subst, arith}
use Rattle.std.specs.Prelude.{ℤ}
use Rattle.std.proofs.lemmas.Bool.{cases_lt}
use Rattle.pass_proofs.specs.frame_layout.declared.layout.Layouts.{Layouts}
use Rattle.pass_proofs.specs.ir_base.declared.outcome.Outcome.{Outcome}
use Rattle.pass_proofs.specs.ir_base.declared.outcome.Word.{Word}
use Rattle.pass_proofs.specs.ir_model.declared.module.Module.{Module}
use Rattle.pass_cleanup.specs.Cleaned.{plain_machine}
use Rattle.pass_split_proof.proofs.simulation.Agreement.{price_within}
use Rattle.pass_split_proof.proofs.simulation.Weights.{weight_some, weight_within}
use Rattle.pass_split_proof.specs.first_exits.Parted.{parted_module}
use Rattle.pass_split_proof.specs.simulation.Followed.{AreStepsFollowed, AreStepsFollowedBy, IsFollowed, IsFollowedBy, IsOwed, ShowsOn}
use Rattle.pass_split_proof.specs.simulation.Statement.{IsBetween, IsEntryOfParts, PartsKeepStates, parts_given}
use Rattle.pass_split_proof.specs.states.Related.{AreHeadersKept, AreRelated, Follows, IsFollowing, IsOn, credit_of, fetched_at, is_behind_suspend, measure, part_price, weight}
use Rattle.pass_proofs.proofs.run_agreement.Costs.{weaken_by}
use Rattle.pass_proofs.proofs.run_agreement.PricedLockstep.{AdvanceBy, IsPassed, SimulatesBy, lockstep_by}
use Rattle.pass_proofs.proofs.run_agreement.Runs.{iterate-add}
use Rattle.pass_proofs.proofs.run_agreement.Shows.{ShowsSame}
use Rattle.pass_proofs.specs.run_agreement.Costs.{AgreesBy, IsNear, cost_from}
use Rattle.pass_proofs.specs.run_agreement.Machines.{IsFine, IsRunning, Machine, iterate}
use Rattle.pass_proofs.specs.run_framed.Framed.{FramedGiven, framed_advance, framed_given, framed_state_at, framed_step}
use Rattle.run_access_worked.specs.run_plain.Plain.{PlainGiven, plain_advance, plain_first, plain_step}
use Rattle.run_access_worked.specs.run_plain.declared.state.PlainState.{PlainState}
use Rattle.pass_proofs.specs.run_source.Source.{first_state}
use Rattle.pass_proofs.specs.run_source.declared.state.State.{State}
use Rattle.pass_proofs.specs.run_states.moved_states.Beside.{framed_machine}
use Rattle.pass_proofs.specs.run_step.Runs.{seen_event}
use Rattle.pass_split_proof.proofs.states.Headers.{headers_all}
use Rattle.pass_proofs.specs.run_memory.declared.block.MemoryBlock.{MemoryBlock}

-- ---- the account of one step

zero_low : 0 ≤ 0
zero_low = omega arith

fits : (b w p : ℕ) → w ≤ p → (b ≡ 0) ⊎ (b + w ≤ p) → b + w ≤ p
fits b w p le (inl z) = omega arith
fits b w p le (inr k) = k

-- what the parts are behind is short
short_behind : (b w p : ℕ) → b + w ≤ p → 1 ≤ w → p ≤ 4 → b ≤ 3
short_behind b w p fit some low = omega arith

spends : (b n d k c c' w p : ℕ) → d ≤ n → n + c' ≤ w + d + k → b + w ≤ p → k ≤ c → ((b + n) - d) + c' ≤ p + c
spends b n d k c c' w p within few fit le = omega arith

some_steps : (b n d : ℕ) → d < n → 0 < (b + n) - d
some_steps b n d lt = omega arith

cost_ones : {T : Type 0} (step : T → T) (n : ℕ) (t : T) → cost_from step (λ u. 1) n t ≡ n
cost_ones step zero t = refl
cost_ones step (suc n) t = ap (λ (k : ℕ). 1 + k) (cost_ones step n (step t)) ∙ one n
  where
    one : (n : ℕ) → 1 + n ≡ suc n
    one n = omega arith

zero_or : (n : ℕ) → (0 < n) ⊎ (n ≡ 0)
zero_or zero = inr refl
zero_or (suc n) = inl (omega arith)

running_is : (o : Outcome) → IsRunning o → o ≡ Outcome.Running
running_is (Outcome.Returned v) h = absurd h
running_is Outcome.Running h = refl
running_is (Outcome.Undefined c p) h = absurd h

-- ---- runs that are over

framed_stays : (g : FramedGiven) (s : State) → (IsRunning s.outcome → ⊥) → framed_step g s ≡ s
framed_stays g s over = on s.outcome refl
  where
    on : (o : Outcome) → s.outcome ≡ o → framed_step g s ≡ s
    on (Outcome.Returned v) e = ap (framed_advance g s) e
    on Outcome.Running e = absurd (over (subst IsRunning (sym e) tt))
    on (Outcome.Undefined c p) e = ap (framed_advance g s) e

plain_stays : (h : PlainGiven) (t : PlainState) → (IsRunning t.outcome → ⊥) → plain_step h t ≡ t
plain_stays h t over = on t.outcome refl
  where
    on : (o : Outcome) → t.outcome ≡ o → plain_step h t ≡ t
    on (Outcome.Returned v) e = ap (plain_advance h t) e
    on Outcome.Running e = absurd (over (subst IsRunning (sym e) tt))
    on (Outcome.Undefined c p) e = ap (plain_advance h t) e

-- ---- one step of the framed run, and those of the parts

module _ (ls : Layouts) (m : Module) (entry other : ℕ) (args : List Word) (answers : List ℤ)
    (Knows : State → PlainState → Type 0) where
  abbrev g : FramedGiven
  g = framed_given m ls.coroutines answers

  abbrev h : PlainGiven
  h = parts_given ls m answers

  abbrev ours : Machine State
  ours = framed_machine m ls entry args answers

  abbrev theirs : Machine PlainState
  theirs = plain_machine (parted_module ls m) other args answers

  abbrev step : PlainState → PlainState
  step = plain_step h

  room : (c : ℕ) (s : State) (t : PlainState) (r : IsFollowing g h c s t)
      → r.behind + weight (fetched_at g s) ≤ part_price g s
  room c s t r = fits r.behind (weight (fetched_at g s)) (part_price g s)
      (weight_within (is_behind_suspend g s) (fetched_at g s)) r.paid

  low_behind : (c : ℕ) (s : State) (t : PlainState) (r : IsFollowing g h c s t) → r.behind ≤ 3
  low_behind c s t r = short_behind r.behind (weight (fetched_at g s)) (part_price g s) (room c s t r)
      (weight_some (fetched_at g s)) (price_within (is_behind_suspend g s) (fetched_at g s))

  -- so many steps, and then the rest
  steps_on : (i k n : ℕ) (t : PlainState) → i + k ≡ n → iterate step n t ≡ iterate step k (iterate step i t)
  steps_on i k n t e = ap (λ (j : ℕ). iterate step j t) (sym e) ∙ iterate-add step i k t

  -- the parts follow a state that the framed run comes to
  record IsKept (c : ℕ) (s : State) (t : PlainState) : Type 0 where
    follows : IsFollowing g h c s t
    knows : Knows s (iterate (plain_step h) follows.behind t)
    index : ℕ
    reached : s ≡ framed_state_at g entry args index

  module _ (c : ℕ) (s : State) (t : PlainState) (r : IsFollowing g h c s t)
      (k : IsFollowedBy g h Knows s (iterate (plain_step h) r.behind t)) (index : ℕ)
      (reached : s ≡ framed_state_at (framed_given m ls.coroutines answers) entry args index) where
    abbrev f : IsFollowed g h s (iterate (plain_step h) r.behind t)
    f = k.followed

    abbrev b : ℕ
    b = r.behind

    abbrev n : ℕ
    n = f.steps

    abbrev d : ℕ
    d = f.debt

    abbrev next : State
    next = framed_step g s

    abbrev u : PlainState
    u = iterate step b t

    abbrev taken : ℕ
    taken = (b + n) - d

    from_there : (i : ℕ) → b ≤ i → iterate step i t ≡ iterate step (i - b) u
    from_there i le = steps_on b (i - b) i t (sums b i le)
      where
        sums : (b i : ℕ) → b ≤ i → b + (i - b) ≡ i
        sums b i le = omega arith

    on_here : (i : ℕ) → i < b + n → IsOn g s (iterate step i t)
    on_here i lt = ⊎_elim
        (λ l. r.passes i l)
        (λ le. subst (IsOn g s) (sym (from_there i le)) (f.passes (i - b) (less b n i le lt)))
        (cases_lt i b)
      where
        less : (b n i : ℕ) → b ≤ i → i < b + n → i - b < n
        less b n i le lt = omega arith

    near_here : (i : ℕ) → i < b + n → IsNear theirs 9 (AreRelated g h) s (iterate step i t)
    near_here i lt = ⊎_elim before behind (cases_lt i b)
      where
        before : i < b → IsNear theirs 9 (AreRelated g h) s (iterate step i t)
        before l = (
          b - i,
          few b i (low_behind c s t r),
          inr (subst (AreRelated g h s) (steps_on i (b - i) b t (sums b i l)) r.related),
        )
          where
            few : (b i : ℕ) → b ≤ 3 → b - i ≤ 9 - 1
            few b i le = omega arith

            sums : (b i : ℕ) → i < b → i + (b - i) ≡ b
            sums b i l = omega arith

        behind : b ≤ i → IsNear theirs 9 (AreRelated g h) s (iterate step i t)
        behind le = (i - b, few b n i le lt f.short, inl (u, r.related, sym (from_there i le)))
          where
            few : (b n i : ℕ) → b ≤ i → i < b + n → n ≤ 9 → i - b ≤ 9 - 1
            few b n i le lt short = omega arith

    passed : (i : ℕ) → i < b + n → IsPassed ours theirs (IsBetween g h theirs) s (iterate step i t)
    passed i lt = record {
      runs = (on_here i lt).running;
      events = ap (map (seen_event m)) (on_here i lt).events;
      holds = record { near = near_here i lt; headers = (on_here i lt).headers };
    }

    split : taken + d ≡ b + n
    split = sums b n d f.within
      where
        sums : (b n d : ℕ) → d ≤ n → ((b + n) - d) + d ≡ b + n
        sums b n d le = omega arith

    -- the whole way, in two parts
    way : iterate step n u ≡ iterate step d (iterate step taken t)
    way = sym (iterate-add step b n t) ∙ steps_on taken d (b + n) t split

    on_next : (i : ℕ) → i < d → IsOn g next (iterate step i (iterate step taken t))
    on_next i lt = ⊎_elim
        (λ z. absurd (none i d z lt))
        (λ p. subst (IsOn g next) (steps_on taken i (taken + i) t refl) (shows p.shows (on_here (taken + i)
        (less b n d i f.within lt)) (headers p)))
        f.owed
      where
        none : (i d : ℕ) → d ≡ 0 → i < d → ⊥
        none i d z lt = omega arith

        less : (b n d i : ℕ) → d ≤ n → i < d → ((b + n) - d) + i < b + n
        less b n d i le lt = omega arith

        late : (b n d i : ℕ) → d ≤ n → b ≤ (b + n) - d + i
        late b n d i le = omega arith

        owes : (b n d i : ℕ) → d ≤ n → n ≤ ((b + n) - d + i) - b + d
        owes b n d i le = omega arith

        early : (b n d i : ℕ) → d ≤ n → i < d → ((b + n) - d + i) - b < n
        early b n d i le lt = omega arith

        -- the memory is what it is behind the debt
        headers : IsOwed g h s u n d → AreHeadersKept g next (iterate step (taken + i) t).world.memory
        headers p = subst (λ (m : List MemoryBlock). AreHeadersKept g next m)
            (sym (ap (λ (y : PlainState). y.world.memory) (from_there (taken + i) (late b n d i f.within))
            ∙ p.still ((taken + i) - b) (owes b n d i f.within) (early b n d i f.within lt)))
            (headers_all g next (iterate step n u).world.memory f.related.frames.headed)

        shows : {x : PlainState} → ShowsOn s next → IsOn g s x → AreHeadersKept g next x.world.memory → IsOn g next x
        shows p o h = record {
          goes = p.goes;
          running = o.running;
          events = o.events ∙ sym p.events;
          allocs = o.allocs ∙ sym p.allocs;
          headers = h;
        }

    following : IsFollowing g h (credit_of next) next (iterate step taken t)
    following = record {
      behind = d;
      related = subst (AreRelated g h next) way f.related;
      passes = on_next;
      paid = ⊎_elim inl (λ p. inr p.room) f.owed;
      calls = same (credit_of next);
    }
      where
        same : (k : ℕ) → k ≤ k
        same k = omega arith

    on_run : framed_step g s ≡ framed_state_at g entry args (index + 1)
    on_run = ap (framed_step g) reached ∙ sym (iterate-add (framed_step g) index 1 (first_state m entry args))

    advances : AdvanceBy ours (part_price g) theirs (λ t. 1) IsKept (IsBetween g h theirs) (measure g) c s t
    unfolding following
    advances = record {
      steps = taken;
      credit = credit_of next;
      few = subst (λ (k : ℕ). k + credit_of next ≤ part_price g s + c) (sym (cost_ones step taken t))
          (spends b n d (credit_of s) c (credit_of next) (weight (fetched_at g s)) (part_price g s) f.within f.few
          (room c s t r) r.calls);
      goes_on = ⊎_elim (λ lt. inl (some_steps b n d lt)) inr f.goes_on;
      between = λ i pos lt. inl (passed i (less b n d i lt));
      related = record {
        follows = following;
        knows = subst (Knows next) way k.knows;
        index = index + 1;
        reached = on_run;
      };
    }
      where
        less : (b n d i : ℕ) → i < (b + n) - d → i < b + n
        less b n d i lt = omega arith

  -- ---- what is shown

  stands : (c : ℕ) (s : State) (t : PlainState) (r : IsFollowing g h c s t) → r.behind ≡ 0 → AreRelated g h s t
  stands c s t r z = subst (λ (i : ℕ). AreRelated g h s (iterate step i t)) z r.related

  shows : (c : ℕ) (s : State) (t : PlainState) → IsFollowing g h c s t → ShowsSame (theirs.seen t) (ours.seen s)
  shows c s t r = ⊎_elim
      (λ pos. let o = r.passes 0 pos in record {
        events = ap (map (seen_event m)) o.events;
        outcome = o.running
            ∙ sym o.goes;
      })
      (λ z. let k = stands c s t r z in record { events = ap (map (seen_event m)) k.world.events; outcome = k.outcome })
      (zero_or r.behind)

  counts : (c : ℕ) (s : State) (t : PlainState) → IsFollowing g h c s t
      → (ours.seen s).allocs ≡ (theirs.seen t).allocs
  counts c s t r = ⊎_elim
      (λ pos. let o = r.passes 0 pos in sym o.allocs)
      (λ z. let k = stands c s t r z in sym k.world.allocs)
      (zero_or r.behind)

  between : (c : ℕ) (s : State) (t : PlainState) → IsFollowing g h c s t → IsBetween g h theirs s t
  between c s t r = record {
    near = (r.behind, few r.behind (low_behind c s t r), inr r.related);
    headers = ⊎_elim
        (λ pos. (r.passes 0 pos).headers)
        (λ z. headers_all g s t.world.memory (stands c s t r z).frames.headed)
        (zero_or r.behind);
  }
    where
      few : (b : ℕ) → b ≤ 3 → b ≤ 9 - 1
      few b le = omega arith

  module _ (start : AreRelated g h (first_state m entry args) (plain_first (parted_module ls m) other args))
      (known : Knows (first_state m entry args) (plain_first (parted_module ls m) other args))
      (all : AreStepsFollowedBy g h Knows entry args) where
    begins : IsFollowing g h 0 ours.start theirs.start
    begins = record {
      behind = 0;
      related = start;
      passes = λ i lt. absurd (none i lt);
      paid = inl refl;
      calls = zero_low;
    }
      where
        none : (i : ℕ) → i < 0 → ⊥
        none i lt = omega arith

    -- a step of the run is followed
    followed : (s : State) (u : PlainState) (index : ℕ) → s ≡ framed_state_at g entry args index → AreRelated g h s u
        → Knows s u → s.outcome ≡ Outcome.Running → IsFine (framed_step g s).outcome → IsFollowedBy g h Knows s u
    followed s u index reached = subst (λ (x : State). AreRelated g h x u → Knows x u → x.outcome ≡ Outcome.Running
        → IsFine (framed_step g x).outcome → IsFollowedBy g h Knows x u) (sym reached) (all index u)

    simulates : SimulatesBy ours (part_price g) theirs (λ t. 1) IsKept (IsBetween g h theirs) (measure g)
    unfolding begins
    simulates = record {
      begin = record { follows = begins; knows = known; index = 0; reached = refl };
      same = λ c s t k. shows c s t k.follows;
      counts = λ c s t k. counts c s t k.follows;
      holds = λ c s t k. between c s t k.follows;
      advance = λ c s t k runs fine. advances c s t k.follows
          (followed s (iterate (plain_step h) k.follows.behind t) k.index k.reached k.follows.related
          k.knows (running_is s.outcome runs) fine) k.index k.reached;
      stays_a = framed_stays g;
      stays_b = plain_stays h;
    }

    pub assembled_by : AgreesBy (Follows (framed_given m ls.coroutines answers) (parts_given ls m answers))
        (IsBetween (framed_given m ls.coroutines answers) (parts_given ls m answers)
        (plain_machine (parted_module ls m) other args answers))
        (framed_machine m ls entry args answers) (part_price (framed_given m ls.coroutines answers))
        (plain_machine (parted_module ls m) other args answers) (λ t. 1)
    assembled_by = weaken_by (λ s t. (c : ℕ) × IsKept c s t) (IsBetween g h theirs) (Follows g h)
        (IsBetween g h theirs) ours (part_price g) (part_price g) theirs (λ t. 1) (λ t. 1)
        (λ s t k. (k.0, k.1.follows)) (λ s t v. v) (λ n fine. omega arith) (λ n. omega arith)
        (lockstep_by ours (part_price g) theirs (λ t. 1) IsKept (IsBetween g h theirs) (measure g)
        simulates)

-- where nothing more is known
pub assembled : (ls : Layouts) (m : Module) (entry other : ℕ) (args : List Word) (answers : List ℤ)
    → AreRelated (framed_given m ls.coroutines answers) (parts_given ls m answers) (first_state m entry args)
    (plain_first (parted_module ls m) other args)
    → AreStepsFollowed (framed_given m ls.coroutines answers) (parts_given ls m answers) entry args
    → AgreesBy (Follows (framed_given m ls.coroutines answers) (parts_given ls m answers))
    (IsBetween (framed_given m ls.coroutines answers) (parts_given ls m answers)
    (plain_machine (parted_module ls m) other args answers))
    (framed_machine m ls entry args answers) (part_price (framed_given m ls.coroutines answers))
    (plain_machine (parted_module ls m) other args answers) (λ t. 1)
assembled ls m entry other args answers start all = assembled_by ls m entry other args answers (λ s t. Unit
    {0}) start tt
    (λ n t r known runs fine. record { followed = all n t r runs fine; knows = tt })

-- the whole
pub followed_keep : (ls : Layouts) (m : Module)
    → ((entry other : ℕ) (args : List Word) (answers : List ℤ) → IsEntryOfParts ls m entry other
    → AreRelated (framed_given m ls.coroutines answers) (parts_given ls m answers) (first_state m entry args)
    (plain_first (parted_module ls m) other args))
    → ((entry other : ℕ) (args : List Word) (answers : List ℤ) → IsEntryOfParts ls m entry other
    → AreStepsFollowed (framed_given m ls.coroutines answers) (parts_given ls m answers) entry args)
    → PartsKeepStates ls m
followed_keep ls m starts all entry other args answers is = assembled ls m entry other args answers
    (starts entry other args answers is) (all entry other args answers is)
