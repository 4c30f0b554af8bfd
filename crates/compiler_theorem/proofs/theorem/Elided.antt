-- All rows in turn, with calls elided.
use Rattle.std.proofs.Common.{◌≡◌, ℕ, ◌+◌, ◌*◌, ◌≤◌, ap, ◌∙◌, subst, arith}
use Rattle.compiler.proofs.run_agreement.Compose.{compose, compose_within, follows_returned, returned_fine, weaken}
use Rattle.compiler.proofs.run_agreement.Costs.{agrees_within, cost_below}
use Rattle.compiler.specs.run_agreement.Agreements.{Agrees, AgreesWithin}
use Rattle.compiler.specs.run_agreement.Costs.{cost_at}
use Rattle.compiler.specs.run_agreement.Factor.{size_factor, step_factor}
use Rattle.compiler.specs.run_agreement.Machines.{IsReturned, Machine, Seen, at, state_at}
use Rattle.compiler.proofs.pass_cleanup.Simulation.{clean_agrees, clean_corresponds}
use Rattle.compiler.specs.pass_cleanup.Cleaned.{IsCleanedOf}
use Rattle.compiler.specs.run_source.declared.state.State.{State}
use Rattle.compiler_theorem.proofs.theorem.Numbered.{counted_on, plain_stays, same_state}
use Rattle.compiler_theorem.proofs.theorem.Rows.{at_least, framed_within}
use Rattle.compiler_theorem.proofs.theorem.Stack.{gives_no_stack_back}
use Rattle.compiler_theorem.proofs.theorem.Tables.{source_tables}
use Rattle.compiler_theorem.proofs.theorem.Whole.{entry_lowered, entry_split}
use Rattle.compiler_theorem.specs.theorem.Anew.{Anew, IsAnewOf}
use Rattle.compiler_theorem.specs.theorem.Elision.{CountsElided, ElidedSteps, ElidesCalls, NamesNoPart, given_frames, uncounted}
use Rattle.compiler_theorem.specs.theorem.Entries.{IsEntry, IsEntryCall, Run}
use Rattle.compiler_theorem.specs.theorem.Lowered.{HasFewBytes, IsLowered, Lowered, early, framed_run, lowered_from, plain_run, printed_from, source_run, split_from}
use Rattle.compiler.specs.ir_model.declared.module.Module.{Module}
use Rattle.pass_frames_meaning.specs.run_types.States.{AreArguments}
use Rattle.compiler.specs.run_plain.declared.state.PlainState.{PlainState}
use Rattle.compiler.proofs.order.meaning.Main.{order_agrees}
use Rattle.compiler.proofs.whole.printed_order.Main.{order_corresponds}
use Rattle.compiler.specs.order.meaning.Beside.{IsInOrderOf}

-- agreement says nothing of counts
counted : {S T : Type 0} (k : ℕ) (a : Machine S) (b : Machine T) → Agrees k 0 (at (uncounted a)) (at (uncounted b))
    → Agrees k 0 (at a) (at b)
counted k a b h = record {
  carried_down = λ fine n. let x = h.carried_down fine n in record
      { steps = x.steps; few = x.few; follows = record { events = x.follows.events; returns = x.follows.returns } };
  never_stuck = h.never_stuck;
  nothing_invented = λ fine m. let x = h.nothing_invented fine m in record
      { steps = x.steps; follows = record { events = x.follows.events; returns = x.follows.returns } };
  prefix = λ n fine. let x = h.prefix n fine in record {
    steps = x.steps;
    few = x.few;
    follows = record
        { events = x.follows.events; returns = x.follows.returns };
    unstuck = x.unstuck;
  };
}

all_times : (s e : ℕ) → ((4 * (4 * s)) * (1 + e)) * ((4 * 1) * 1) ≡ 64 * s * (1 + e)
all_times s e = grind arith

composed : (j k : ℕ) (a b c : ℕ → Seen) → Agrees j 0 a b → Agrees k 0 b c → Agrees (j * k) 0 a c
composed j k a b c g h =
    let none : k * 0 + 0 ≤ 0 = omega arith in
    weaken (j * k) (k * 0 + 0) (j * k) 0 a c (omega arith) none (compose j 0 k 0 a b c g h)

module _ (X Y : Lowered → Module → Run → State → State → Type 0) (a : Anew) (l : Lowered) (low : IsLowered l)
    (few : HasFewBytes l) (anew : IsAnewOf (early l) a) (n : Module) (sites : ℕ) (g : ElidedSteps X Y l n sites)
    (r : Run) (other : ℕ)
    (entry : IsEntry l.source (printed_from l n) r.entry other) (fits : AreArguments l.source r.entry r.args) where
  call : IsEntryCall l.source r
  call = record { callable = entry.callable; fits = fits }

  abbrev here : IsEntry l.source (split_from l n) r.entry other
  here = entry_split l n r.entry other (entry_lowered l n r.entry other entry)

  abbrev source : ℕ → Seen
  source = at (source_run l r)

  abbrev framed : ℕ → Seen
  framed = at (framed_run l l.framed r)

  abbrev elided : ℕ → Seen
  elided = at (framed_run l n r)

  abbrev printed : ℕ → Seen
  printed = at (plain_run (printed_from l n) r other)

  abbrev f : ℕ
  f = 4 * (4 * size_factor l.source)

  first : AgreesWithin f source framed
  first = framed_within a l low few anew r call

  second : Agrees (1 + sites) 0 framed elided
  second =
      counted (1 + sites) (framed_run l l.framed r) (framed_run l n r)
      (agrees_within (X l n r) (Y l n r) (uncounted (framed_run l l.framed r)) (λ s. 1 + sites)
      (uncounted (framed_run l n r)) (λ t. 1) (1 + sites)
      (λ k fine. flat k) (at_least (uncounted (framed_run l n r))) (g.eliding r call)).runs
    where
      flat : (k : ℕ) → cost_at (uncounted (framed_run l l.framed r)) (λ s. 1 + sites) k ≤ (1 + sites) * k
      flat k = cost_below (uncounted (framed_run l l.framed r)).step (λ s. 1 + sites) (1 + sites) (λ s. omega arith) k
          (uncounted (framed_run l l.framed r)).start

  third : AgreesWithin ((4 * 1) * 1) elided printed
  third =
      compose_within (4 * 1) 1 elided (at (plain_run (lowered_from l n) r other)) printed
      (compose_within 4 1 elided (at (plain_run (split_from l n) r other)) (at (plain_run (lowered_from l n) r other))
      (g.parting r other g.allocas call here)
      (clean_agrees (split_from l n) g.cleanable other r.args r.answers))
      (order_agrees (lowered_from l n) g.shaped g.apart other r.args r.answers)

  runs : Agrees (step_factor l.source sites) 0 source printed
  runs =
      subst (λ k. Agrees k 0 source printed) (all_times (size_factor l.source) sites)
      (composed (f * (1 + sites)) ((4 * 1) * 1) source elided printed
      (composed f (1 + sites) source framed elided first.runs second) third.runs)

  -- the number of elided calls
  number : (i j : ℕ) → IsReturned (elided i).outcome → IsReturned (printed j).outcome → NamesNoPart l.source
      → (state_at (plain_run (printed_from l n) r other) j).elided ≡ given_frames (state_at (framed_run l n r) i)
  number i j ri rj parts =
      let split : Machine PlainState = plain_run (split_from l n) r other in
      let lowered : Machine PlainState = plain_run (lowered_from l n) r other in
      let last : Machine PlainState = plain_run (printed_from l n) r other in
      let x = (g.parting r other g.allocas call here).runs.prefix i (returned_fine (elided i).outcome ri) in
      let rx : IsReturned (at split x.steps).outcome = follows_returned (elided i) (at split x.steps) x.follows ri in
      let y = counted_on (IsCleanedOf (split_from l n)) (IsCleanedOf (split_from l n)) split (λ s. 1) lowered (λ t. 1)
      (λ s t e. ap (λ (u : PlainState). u.elided) e) (clean_corresponds (split_from l n) g.cleanable other r.args
      r.answers) x.steps rx in
      let z = counted_on (IsInOrderOf (lowered_from l n)) (IsInOrderOf (lowered_from l n)) lowered (λ s. 1) last
      (λ t. 1) (λ s t e. ap (λ (u : PlainState). u.elided) e.beside.is)
      (order_corresponds (lowered_from l n) g.shaped g.apart other r.args r.answers) y.steps y.returned in
      ap (λ (u : PlainState). u.elided) (same_state last (plain_stays (printed_from l n) other r.args r.answers)
      z.steps j z.returned rj)
      ∙ z.same
      ∙ y.same
      ∙ g.numbering parts r other here i x.steps ri rx

  counts : (i j : ℕ) → IsReturned (source i).outcome → IsReturned (printed j).outcome → CountsElided l n r other i j
  counts i j ri rj =
      let x = first.runs.prefix i (returned_fine (source i).outcome ri) in
      let rx : IsReturned (framed x.steps).outcome = follows_returned (source i) (framed x.steps) x.follows ri in
      let y = second.prefix x.steps (returned_fine (framed x.steps).outcome rx) in
      let ry : IsReturned (elided y.steps).outcome = follows_returned (framed x.steps) (elided y.steps) y.follows rx
      in
      record {
        steps = y.steps;
        returned = ry;
        number = number y.steps j ry rj;
        counts =
            first.counts i x.steps ri rx
            ∙ g.losing r call x.steps y.steps rx ry
            ∙ ap (λ (k : ℕ). k + given_frames (state_at (framed_run l n r) y.steps)) (third.counts y.steps j ry rj);
      }

  elides : ElidesCalls l n sites r other
  elides = record {
    stands = g.stands;
    headline = weaken (step_factor l.source sites) 0 (step_factor l.source sites) (step_factor l.source sites) source
        printed (omega arith) (omega arith) runs;
    counts = counts;
    no_stack = λ fine. gives_no_stack_back (printed_from l n) r other (runs.never_stuck fine);
  }

-- with the tables of an accepted source
pub elides_calls : (X Y : Lowered → Module → Run → State → State → Type 0) (l : Lowered) (low : IsLowered l)
    → HasFewBytes l → (n : Module) (sites : ℕ) → ElidedSteps X Y l n sites → (r : Run) (other : ℕ)
    → IsEntry l.source (printed_from l n) r.entry other → AreArguments l.source r.entry r.args
    → ElidesCalls l n sites r other
elides_calls X Y l low few n sites g r other entry fits =
    let tables = source_tables l low in elides X Y tables.0 l low few tables.1 n sites g r other entry fits
