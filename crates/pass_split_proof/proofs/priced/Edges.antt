-- What a terminator becomes where edges that leave windows have blocks: an edge leads directly, or to a new label.
use Rattle.std.proofs.Common.{◌≡◌, ◌⊎◌, inl, inr, ℕ, zero, suc, ◌≤◌, Bool, true, false, List, [], ◌∷◌, length, refl, sym, ap, ◌∙◌, subst, arith}
use Rattle.std.specs.Prelude.{Some, None, Option, map, slice_get, ◌==◌}
use Rattle.pass_proofs.specs.flow_solver.Paths.{IsListed}
use Rattle.pass_proofs.specs.ir_laws.facts.branches.Ways.{TermsPaired}
use Rattle.pass_proofs.specs.ir_laws.facts.expanded.Expansion.{number_at}
use Rattle.pass_proofs.specs.ir_laws.facts.threads.Moved.{ArePaired}
use Rattle.pass_proofs.specs.ir_model.Names.{position_of}
use Rattle.pass_proofs.specs.ir_model.declared.instr.Case.{Case}
use Rattle.pass_proofs.specs.ir_model.declared.instr.Instr.{Instr}
use Rattle.pass_proofs.specs.ir_model.declared.instr.Terminator.{Terminator}
use Rattle.pass_proofs.specs.ir_model.declared.module.Block.{Block}
use Rattle.pass_proofs.specs.ir_model.declared.module.Function.{Function}
use Rattle.pass_proofs.specs.ir_model.declared.module.Module.{Module}
use Rattle.pass_proofs.specs.ir_paths.Paths.{targets}
use Rattle.pass_proofs.specs.pass_exits.ExitBlocks.{after_exit, exit_cases, exit_label, exit_term, with_exit_blocks}
use Rattle.pass_proofs.specs.pass_exits.Exits.{mark_of}
use Rattle.pass_proofs.proofs.exits.rules.Places.{Placed, after, grow, own_number, own_there, spot, with_places}
use Rattle.pass_proofs.proofs.exits.rules.Single.{no_mark}
use Rattle.pass_proofs.proofs.exits.rules.Threaded.{threaded}
use Rattle.pass_proofs.specs.exits.states.Exits.{KeepsExits}
use Rattle.pass_proofs.specs.run_states.moved_states.Moving.{IsDirect}
use Rattle.pass_proofs.specs.run_step.Step.{AtTerm, fetch, fetch_in, fetch_or}

-- ---- both of two relations

both_cases : (A B : ℕ → ℕ → Type 0) (cases others : List Case)
    → ArePaired (λ (i : Case) (j : Case). (j.arg ≡ i.arg) × A i.target j.target) cases others
    → ArePaired (λ (i : Case) (j : Case). (j.arg ≡ i.arg) × B i.target j.target) cases others
    → ArePaired (λ (i : Case) (j : Case). (j.arg ≡ i.arg) × (A i.target j.target × B i.target j.target)) cases others
both_cases A B [] [] a b = tt
both_cases A B [] (j ∷ others) a b = absurd a
both_cases A B (i ∷ cases) [] a b = absurd a
both_cases A B (i ∷ cases) (j ∷ others) a b = ((a.0.0, (a.0.1, b.0.1)), both_cases A B cases others a.1 b.1)

pub both_terms : (A B : ℕ → ℕ → Type 0) (t u : Terminator) → TermsPaired A t u → TermsPaired B t u
    → TermsPaired (λ (x : ℕ) (y : ℕ). A x y × B x y) t u
both_terms A B (Terminator.Jump t) (Terminator.Jump l) a b = (a, b)
both_terms A B (Terminator.Branch x t u) (Terminator.Branch y l k) a b = (a.0, ((a.1.0, b.1.0), (a.1.1, b.1.1)))
both_terms A B (Terminator.Switch x t cases) (Terminator.Switch y l others) a b =
    (a.0, ((a.1.0, b.1.0), both_cases A B cases others a.1.1 b.1.1))
both_terms A B (Terminator.Ret v) (Terminator.Ret w) a b = a
both_terms A B Terminator.Unreachable Terminator.Unreachable a b = tt
both_terms A B _ _ a b = absurd a

-- ---- labels

module _ (f : Function) (at : ℕ) (h : Function) (to : ℕ → ℕ) where
  -- directly, or to a new label
  abbrev IsLed : ℕ → ℕ → Type 0
  IsLed u l = IsDirect f h to u l ⊎ (length f.names ≤ l)

  abbrev Stays : ℕ → Type 0
  Stays u = position_of h u ≡ to (position_of f u)

  label_led : (n : ℕ) (o : Option ℕ) (u : ℕ) → length f.names ≤ n → Stays u → IsLed u (exit_label n o u)
  label_led n None u low e = inl (record { to = e })
  label_led n (Some j) u low e = inr low

  after_low : (n : ℕ) (o : Option ℕ) → length f.names ≤ n → length f.names ≤ after_exit n o
  after_low n None low = low
  after_low n (Some j) low = omega (arith, low)

  cases_led : (n : ℕ) → length f.names ≤ n → (cases : List Case)
      → ((u : ℕ) → IsListed u (map (λ (k : Case). k.target) cases) → Stays u)
      → ArePaired (λ (k : Case) (j : Case). (j.arg ≡ k.arg) × IsLed k.target j.target) cases (exit_cases f at n cases)
  cases_led n low [] old = tt
  cases_led n low (k ∷ cases) old = (
    (refl, label_led n (mark_of f at k.target) k.target low (old k.target (inl refl))),
    cases_led (after_exit n (mark_of f at k.target)) (after_low n (mark_of f at k.target) low) cases
        (λ u l. old u (inr l)),
  )

  term_led : (n : ℕ) → length f.names ≤ n → (t : Terminator) → ((u : ℕ) → IsListed u (targets t) → Stays u)
      → TermsPaired IsLed t (exit_term f at n t)
  term_led n low (Terminator.Jump u) old = label_led n (mark_of f at u) u low (old u (inl refl))
  term_led n low (Terminator.Branch c a b) old = (
    refl,
    (
      label_led n (mark_of f at a) a low (old a (inl refl)),
      label_led (after_exit n (mark_of f at a)) (mark_of f at b) b (after_low n (mark_of f at a) low)
          (old b (inr (inl refl))),
    ),
  )
  term_led n low (Terminator.Switch arg d cases) old = (
    refl,
    (
      label_led n (mark_of f at d) d low (old d (inl refl)),
      cases_led (after_exit n (mark_of f at d)) (after_low n (mark_of f at d) low) cases (λ u l. old u (inr l)),
    ),
  )
  term_led n low (Terminator.Ret v) old = refl
  term_led n low Terminator.Unreachable old = tt

-- new labels are behind those of the function
number_low : (f : Function) (k : ℕ) → length f.names ≤ own_number f k
number_low f k = rise k (length f.names) (with_places 0 f.blocks)
  where
    rise : (k n : ℕ) (xs : List Placed) → n ≤ number_at (grow f) (after f) k n xs
    rise zero n xs = omega arith
    rise (suc k) n [] = omega arith
    rise (suc k) n (x ∷ xs) = let again = rise k (after f n x) xs in omega (arith, again)

-- ---- a function that stays

stays_cases : (W : ℕ → ℕ → Type 0) → ((t : ℕ) → W t t) → (cases : List Case)
    → ArePaired (λ (k : Case) (j : Case). (j.arg ≡ k.arg) × W k.target j.target) cases cases
stays_cases W h [] = tt
stays_cases W h (k ∷ cases) = ((refl, h k.target), stays_cases W h cases)

stays_term : (W : ℕ → ℕ → Type 0) → ((t : ℕ) → W t t) → (t : Terminator) → TermsPaired W t t
stays_term W h (Terminator.Jump t) = h t
stays_term W h (Terminator.Branch x a b) = (refl, (h a, h b))
stays_term W h (Terminator.Switch x d cases) = (refl, (h d, stays_cases W h cases))
stays_term W h (Terminator.Ret v) = refl
stays_term W h Terminator.Unreachable = tt

-- ---- what stands at a terminator's place then

pub record IsEdged (New : ℕ → Type 0) (f h : Function) (to : ℕ → ℕ) (block at : ℕ) (t : Terminator) : Type 0 where
  pub term : Terminator
  pub there : fetch h (to block) at ≡ AtTerm term
  pub led : TermsPaired (λ (u : ℕ) (l : ℕ). IsDirect f h to u l ⊎ New l) t term

pub record IsLast (f : Function) (block at : ℕ) (t : Terminator) : Type 0 where
  pub there : Block
  pub got : slice_get f.blocks block ≡ Some there
  pub instr : slice_get there.instrs at ≡ None
  pub behind : (at == length there.instrs) ≡ true
  pub is : there.term ≡ t

pub last_is : (f : Function) (block at : ℕ) (t : Terminator) → fetch f block at ≡ AtTerm t → IsLast f block at t
last_is f block at t = on (slice_get f.blocks block) refl
  where
    by : (b : Block) → slice_get f.blocks block ≡ Some b → (o : Option Instr) → slice_get b.instrs at ≡ o → (z : Bool)
        → (at == length b.instrs) ≡ z → fetch_or o z b.term ≡ AtTerm t → IsLast f block at t
    by b e (Some i) o z l d = absurd (cc)
    by b e None o false l d = absurd (cc)
    by b e None o true l d =
        record {
          there = b;
          got = e;
          instr = o;
          behind = l;
          is = cc;
        }

    on : (o : Option Block) → slice_get f.blocks block ≡ o → fetch_in o at ≡ AtTerm t → IsLast f block at t
    on None e d = absurd (cc)
    on (Some b) e d = by b e (slice_get b.instrs at) refl (at == length b.instrs) refl d

module _ (f : Function) (block at : ℕ) (t : Terminator) (x : IsLast f block at t) where
  exit_there : fetch (with_exit_blocks f) (spot f block) at ≡ AtTerm (exit_term f block (own_number f block) t)
  exit_there =
      ap (λ (o : Option Block). fetch_in o at) (own_there f block x.there x.got)
      ∙ ap (λ (o : Option Instr). fetch_or o (at == length x.there.instrs)
      (exit_term f block (own_number f block) x.there.term)) x.instr
      ∙ ap (λ (y : Bool). fetch_or None y (exit_term f block (own_number f block) x.there.term)) x.behind
      ∙ ap (λ (y : Terminator). AtTerm (exit_term f block (own_number f block) y)) x.is

  module _ (m : Module) (func : ℕ) (keeps : KeepsExits m func f) where
    old : (u : ℕ) → IsListed u (targets t) → position_of (with_exit_blocks f) u ≡ spot f (position_of f u)
    old u l = (threaded m func f keeps.rules keeps.jumps).old block x.there u x.got
        (subst (λ (y : Terminator). IsListed u (targets y)) (sym x.is) l)

    pub coroutine_edged : IsEdged (λ (l : ℕ). length f.names ≤ l) f (with_exit_blocks f) (spot f) block at t
    coroutine_edged = record {
      term = exit_term f block (own_number f block) t;
      there = exit_there;
      led = term_led f block (with_exit_blocks f) (spot f) (own_number f block) (number_low f block) t old;
    }

    -- an edge that is the only one of its block gets none
    pub jump_edged : (New : ℕ → Type 0) (u : ℕ) → t ≡ Terminator.Jump u
        → IsEdged New f (with_exit_blocks f) (spot f) block at t
    jump_edged New u e = record {
      term = Terminator.Jump u;
      there = exit_there ∙ ap (λ (y : Terminator). AtTerm (exit_term f block (own_number f block) y)) e
          ∙ ap (λ (o : Option ℕ). AtTerm (Terminator.Jump (exit_label (own_number f block) o u)))
          (no_mark f block x.there u x.got (x.is ∙ e));
      led = subst (λ (y : Terminator). TermsPaired (λ (a : ℕ) (l : ℕ). IsDirect f (with_exit_blocks f) (spot f) a l ⊎ New l)
          y (Terminator.Jump u)) (sym e)
          (inl (record { to = old u (subst (λ (y : Terminator). IsListed u (targets y)) (sym e) (inl refl)) }));
    }

pub plain_edged : (New : ℕ → Type 0) (f : Function) (block at : ℕ) (t : Terminator) → fetch f block at ≡ AtTerm t
    → IsEdged New f f (λ (k : ℕ). k) block at t
plain_edged New f block at t here = record {
  term = t;
  there = here;
  led = stays_term (λ (u : ℕ) (l : ℕ). IsDirect f f (λ (k : ℕ). k) u l ⊎ New l) (λ u. inl (record { to = refl })) t;
}
