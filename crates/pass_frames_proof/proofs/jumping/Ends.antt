-- The end of a block is executed where a coroutine jumps from it.
use Rattle.std.proofs.Common.{◌≡◌, ℕ, List, [], ◌∷◌, ◌++◌, length, refl, sym, subst, arith}
use Rattle.std.specs.Prelude.{None, Option, Some, codes, replicate, slice_get}
use Rattle.pass_frames_steps.proofs.ir_laws.facts.Members.{each_joined}
use Rattle.pass_frames_steps.specs.ir_model.Ty.{Ty}
use Rattle.pass_frames_steps.specs.ir_model.declared.instr.Instr.{Instr}
use Rattle.pass_frames_steps.specs.ir_model.declared.instr.Phi.{Phi}
use Rattle.pass_frames_steps.specs.ir_model.declared.instr.Terminator.{Terminator}
use Rattle.pass_frames_steps.specs.ir_model.declared.module.Function.{Function}
use Rattle.pass_frames_steps.specs.ir_model.declared.module.Module.{Module}
use Rattle.pass_frames_steps.specs.ir_model.declared.operand.Operand.{Operand}
use Rattle.pass_frames_steps.specs.pass_cells.Cells.{fetches_of}
use Rattle.pass_frames_steps.specs.pass_fetch.Blocks.{end_at}
use Rattle.pass_frames_steps.specs.pass_fetch.Fetching.{fetch_into, fetch_of, fetches_of_all}
use Rattle.pass_frames_steps.specs.pass_fetch.Instrs.{term_operands}
use Rattle.pass_frames_steps.specs.pass_fetch.declared.fetch.Fetch.{Fetch}
use Rattle.pass_frames_steps.proofs.code.Left.{Far, all_by, blocks_by, far_named}
use Rattle.pass_frames_steps.proofs.code.Names.{far_left}
use Rattle.pass_frames_steps.proofs.distances.Sums.{value_stays}
use Rattle.pass_frames_steps.proofs.led.Steps.{still_others, still_through}
use Rattle.pass_frames_steps.proofs.phis.Rows.{ends as ends_run}
use Rattle.pass_frames_steps.proofs.phis.Twice.{pairs_twice, phis_get_twice}
use Rattle.pass_frames_steps.specs.Code.{address_state, end_code, end_loads, end_term, last_state, load_name, slot_table}
use Rattle.pass_frames_steps.specs.Distances.{IsBelow, SetsFrom}
use Rattle.pass_frames_steps.specs.Edges.{AreEndsLed, ArePairs, EndsLed, IsAtJump, block_to, entered_phis}
use Rattle.pass_frames_steps.specs.Ends.{IsPhiTwice, end_line, phis_twice}
use Rattle.pass_frames_steps.specs.Framings.{IsFraming}
use Rattle.pass_frames_steps.specs.Jumps.{EndsAt, MayJump, MayJumpBy, label_at}
use Rattle.pass_frames_steps.specs.Led.{IsStill, twice_by}
use Rattle.pass_frames_steps.specs.Fetched.{seen_by}
use Rattle.pass_frames_steps.specs.Lined.{GivesNone}
use Rattle.pass_frames_steps.specs.Passes.{block_at, phi_ends}
use Rattle.pass_frames_steps.specs.Places.{Framing, edged, framed, named, plan, unmarked}
use Rattle.pass_frames_steps.specs.Related.{AreBuiltOf, Building}
use Rattle.pass_frames_steps.specs.Stepping.{AreGiven}
use Rattle.pass_frames_steps.proofs.pass_proofs.fetch.shape.Fetching.{no_rows}
use Rattle.pass_frames_steps.specs.pass_renewed_proof.Renewed.{RenewedGiven}
use Rattle.pass_frames_steps.specs.run_framed.Framed.{framed_context}
use Rattle.pass_frames_steps.specs.run_laws.access.Lines.{Runs}
use Rattle.pass_frames_steps.specs.run_laws.changed.Changed.{Each}
use Rattle.pass_frames_steps.specs.run_laws.memory.Pointers.{Home, IsValue}
use Rattle.pass_frames_steps.specs.run_memory.declared.pointer.Value.{Value}
use Rattle.pass_frames_steps.specs.run_source.Source.{context_of}
use Rattle.pass_frames_steps.specs.run_source.State.{work_of}
use Rattle.pass_frames_steps.specs.run_source.declared.state.State.{State}
use Rattle.pass_frames_steps.specs.run_step.Step.{Context, Work, incoming_from, label_of, phi_values, phis_of}
use Rattle.pass_frames_steps.specs.run_step.Values.{operand_value}

-- ---- what stands at the end is fetched

pub end_each : (P : Instr → Type 0) → ((n : ℕ) (y : Fetch) → P (fetch_into n y)) → (t u : List (Option Fetch))
    (f h : Function) (label n m : ℕ) (xs ys : List Operand) → Each P (end_line t u f h label n m xs ys)
end_each P one t u f h label n m xs ys =
    each_joined P (end_at (phi_ends f t) label ++ fetches_of_all t n xs)
    (end_at (phi_ends h u) label ++ fetches_of_all u m ys)
    (each_joined P (end_at (phi_ends f t) label) (fetches_of_all t n xs)
    (blocks_by t P 0 (λ k y z low e. one k z) (length f.names) (replicate (length f.names) []) f.blocks (omega arith)
    (no_rows t P (length f.names)) label)
    (all_by t P 0 (λ k y z low e. one k z) n xs (omega arith)))
    (each_joined P (end_at (phi_ends h u) label) (fetches_of_all u m ys)
    (blocks_by u P 0 (λ k y z low e. one k z) (length h.names) (replicate (length h.names) []) h.blocks (omega arith)
    (no_rows u P (length h.names)) label)
    (all_by u P 0 (λ k y z low e. one k z) m ys (omega arith)))

pub into_still : (n : ℕ) (y : Fetch) → IsStill (fetch_into n y)
into_still n (Fetch.Load ty cell) = tt
into_still n (Fetch.Address base distance) = tt

pub into_gives : (m : Module) (n : ℕ) (y : Fetch) → GivesNone m (fetch_into n y)
into_gives m n (Fetch.Load ty cell) = refl
into_gives m n (Fetch.Address base distance) = refl

-- ---- what is seen stays while new names are set

module _ (homes : List Home) (t u : List (Option Fetch)) (given reached : ℕ → Value) (c d : Context) (w y z : Work)
    (first : ℕ) (sets : SetsFrom first y z) where
  second_same : (ty : Ty) (a : Operand) → IsBelow first a → (o : Option Fetch)
      → seen_by reached d z ty a o ≡ seen_by reached d y ty a o
  second_same ty a low None = value_stays d first y z ty a sets low
  second_same ty a low (Some f) = refl

  twice_same : (ty : Ty) (a : Operand) → IsBelow first a → (o : Option Fetch)
      → twice_by u given reached d z ty a o ≡ twice_by u given reached d y ty a o
  twice_same ty a low None = second_same ty a low (fetch_of u a)
  twice_same ty a low (Some f) = refl

  phis_stay : (label bound : ℕ) (ps : List Phi)
      → Each (λ (p : Phi). IsBelow first (incoming_from p.incoming label)) ps
      → Each (IsPhiTwice homes t u given reached c d w y label bound) ps
      → Each (IsPhiTwice homes t u given reached c d w z label bound) ps
  phis_stay label bound [] low h = tt
  phis_stay label bound (p ∷ ps) low h = (
    record {
      low = h.0.low;
      stands = λ ty.
          subst (IsValue homes (operand_value c.code w.values ty (incoming_from p.incoming label)))
          (sym (twice_same ty (incoming_from p.incoming label) low.0 (fetch_of t (incoming_from p.incoming label))))
          (h.0.stands ty);
    },
    phis_stay label bound ps low.1 h.1,
  )

-- ---- the end

module _ (b : Building) (g : RenewedGiven) (s t : State) (homes : List Home) (is : IsFraming (b.framing s.top.func))
    (label : ℕ) (q : MayJumpBy b g s t homes label) where
  abbrev x : Framing
  x = b.framing s.top.func

  abbrev T : List (Option Fetch)
  T = fetches_of (plan x)

  abbrev U : List (Option Fetch)
  U = slot_table x

  abbrev c : Context
  c = context_of g.given s

  abbrev d : Context
  d = framed_context b.given t

  abbrev from : ℕ
  from = label_at x s.top.block

  run : EndsAt x q.given q.reached d s.top.block (work_of t)
  run =
      ends_run (fetches_of (plan x)) (slot_table x) q.given q.reached d (named x) (unmarked x) from
      (load_name (last_state x s.top.block)) (address_state (last_state x s.top.block)).0
      (term_operands (block_at (edged x) s.top.block).term) (term_operands (block_at (unmarked x) s.top.block).term)
      (work_of t) q.ends

  -- with the label by which the second pass goes
  abbrev line_by : ℕ → List Instr
  line_by l =
      end_loads x s.top.block (last_state x s.top.block)
      ++ (end_at (phi_ends (unmarked x) (slot_table x)) l
      ++ fetches_of_all (slot_table x) (address_state (last_state x s.top.block)).0
      (term_operands (block_at (unmarked x) s.top.block).term))

  abbrev line : List Instr
  line = end_code x s.top.block (last_state x s.top.block)

  all : (P : Instr → Type 0) → ((n : ℕ) (y : Fetch) → P (fetch_into n y)) → Each P line
  all P one =
      subst (λ (l : ℕ). Each P (line_by l)) (sym q.label_same)
      (end_each P one T U (named x) (unmarked x) from (load_name (last_state x s.top.block))
      (address_state (last_state x s.top.block)).0 (term_operands (block_at (edged x) s.top.block).term)
      (term_operands (block_at (unmarked x) s.top.block).term))

  still : Each IsStill line
  still = all IsStill into_still

  runs_line : Runs d line (work_of t) run.work
  runs_line = subst (λ (l : ℕ). Runs d (line_by l) (work_of t) run.work) (sym q.label_same) run.runs

  phis_there : phi_values d.code run.work.values from q.phis.behind.phis
      ≡ phis_twice T U q.given q.reached d run.loaded from q.phis.before.phis
  phis_there =
      phis_get_twice T U (Far x is) (λ n low. (far_left x is n low).0) q.given q.reached d (work_of t) run.loaded
      run.work from (named x) (unmarked x) (codes "$c.use.") (codes "$c.at.") (block_to x label) q.phis.before
      q.phis.loaded q.phis.between q.phis.behind (far_named x is) run.loads_seen run.addresses_seen q.phis.here
      q.phis.loaded_there q.phis.between_there q.phis.same q.phis.behind_there

  abbrev bound : ℕ
  bound = length (edged x).names

  pairs_there : ArePairs homes bound (phi_values c.code s.top.values from q.phis.before.phis)
      (phi_values d.code run.work.values from q.phis.behind.phis)
  pairs_there =
      subst (ArePairs homes bound (phi_values c.code s.top.values from q.phis.before.phis)) (sym phis_there)
      (pairs_twice homes T U q.given q.reached c d (work_of s) run.loaded from bound q.phis.before.phis
      (phis_stay homes T U q.given q.reached c d (work_of s) (work_of t) run.loaded (length (named x).names)
      run.along_loaded from bound q.phis.before.phis q.below q.seen))

  abbrev Pairs : ℕ → List Phi → ℕ → List Phi → Type 0
  Pairs l ps m qs =
      ArePairs homes bound (phi_values c.code s.top.values l ps) (phi_values d.code run.work.values m qs)

  phis : ArePairs homes bound (entered_phis g s x label)
      (phi_values b.given.given.code run.work.values (label_of (slice_get (framed x).blocks s.top.block))
      (phis_of (slice_get (framed x).blocks (block_to x label))))
  phis =
      subst
      (λ (p : (ℕ × List Phi) × (ℕ × List Phi)). Pairs p.0.0 p.0.1 p.1.0 p.1.1)
      (λ i. (
        (sym q.source_label i, sym q.phis.source i),
        (sym q.target_label i, sym q.phis.target i),
      )) pairs_there

  pub ends_led_by : EndsLed b g s t homes label line
      (end_term x (last_state x s.top.block) (block_at (edged x) s.top.block).term)
  ends_led_by = record {
    work = run.work;
    runs = still_through d (λ (u : Work). u.world ≡ t.world) (work_of t) (λ u same. same) line (work_of t) run.work
        still refl runs_line;
    world = run.along.world;
    room = run.along.room;
    low = run.along.others;
    wheres = λ z listed. (
      still_others d z.cell line (work_of t) run.work still (q.unset z listed).0 runs_line,
      still_others d z.temporary line (work_of t) run.work still (q.unset z listed).1 runs_line,
    );
    goes = q.goes run;
    gives = all (GivesNone b.given.given.code) (into_gives b.given.given.code);
    block = q.block;
    phis = phis;
  }

pub ends_led : (b : Building) (g : RenewedGiven) → AreGiven b g → (s t : State) (r : AreBuiltOf b s t) (e : Terminator)
    (label : ℕ) → IsAtJump b g s e label → MayJump b g s t r label
    → AreEndsLed b g s t r label
    (end_code (b.framing s.top.func) s.top.block (last_state (b.framing s.top.func) s.top.block))
    (end_term (b.framing s.top.func) (last_state (b.framing s.top.func) s.top.block)
    (block_at (edged (b.framing s.top.func)) s.top.block).term)
ends_led b g given s t r e label h q =
    ends_led_by b g s t r.homes (given.framings s.top.func h.coroutine) label q
