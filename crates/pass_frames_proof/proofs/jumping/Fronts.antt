-- In front of an ordinary block its phis are stored.
use Rattle.std.proofs.Common.{◌≡◌, inr, ℕ, Bool, true, false, List, [], ◌∷◌, length, refl, sym, ap, ◌∙◌, subst, arith}
use Rattle.std.specs.List.{Contains}
use Rattle.std.specs.Prelude.{Err, None, Ok, Option, Result, Some, slice_get, if◌then◌else◌}
use Rattle.pass_frames_steps.specs.ir_base.declared.cause.Cause.{Cause}
use Rattle.pass_frames_steps.proofs.ir_laws.facts.Members.{each_joined, each_turns}
use Rattle.pass_frames_steps.specs.ir_model.Ty.{int, ptr}
use Rattle.pass_frames_steps.specs.ir_model.declared.instr.Instr.{Instr}
use Rattle.pass_frames_steps.specs.ir_model.declared.instr.Phi.{Phi}
use Rattle.pass_frames_steps.specs.ir_model.declared.instr.Terminator.{Terminator}
use Rattle.pass_frames_steps.specs.ir_model.declared.module.Module.{Module}
use Rattle.pass_frames_steps.specs.ir_model.declared.operand.Arg.{Arg}
use Rattle.pass_frames_steps.specs.ir_model.declared.operand.Operand.{Operand}
use Rattle.pass_frames_steps.specs.pass_cells.Kept.{entry}
use Rattle.pass_frames_steps.specs.pass_cells.Moves.{store_to}
use Rattle.pass_frames_steps.specs.pass_cells.Written.{stored, stored_at, stored_one, stored_phis}
use Rattle.pass_frames_steps.specs.pass_cells.declared.plan.KeptValue.{KeptValue}
use Rattle.pass_frames_steps.specs.pass_fetch.Fetching.{value_bytes}
use Rattle.pass_frames_proof.proofs.jumping.Before.{cells_before, enough, free_before}
use Rattle.pass_frames_proof.proofs.jumping.Pairs.{AreAllSet, all_set}
use Rattle.pass_frames_steps.proofs.led.Steps.{fills_elsewhere}
use Rattle.pass_frames_steps.proofs.lines.Filled.{worlds_stand}
use Rattle.pass_frames_steps.proofs.lines.Names.{distance_of}
use Rattle.pass_frames_steps.proofs.lines.Results.{kept_is_cell}
use Rattle.pass_frames_steps.proofs.phis.Stored.{phis_stored}
use Rattle.pass_frames_steps.proofs.stepping.After.{cell_turned}
use Rattle.pass_frames_steps.proofs.stepping.May.{own_blocks}
use Rattle.pass_frames_steps.proofs.stepping.Names.{cell_is_name}
use Rattle.pass_frames_steps.specs.Edges.{AreCellsFit, AreEndsLed, AreFrontsLed, ArePhisGiven, EndsLed, FrontsLed, IsAtJump, IsOnFront, PhisGiven, block_to, entered_phis, entered_work}
use Rattle.pass_frames_steps.specs.Framings.{IsFraming}
use Rattle.pass_frames_steps.specs.Led.{IsNoCell, RunsThrough}
use Rattle.pass_frames_steps.specs.Lined.{GivesNone}
use Rattle.pass_frames_steps.specs.Lines.{AreAway, IsCellOf, at_work}
use Rattle.pass_frames_steps.specs.Passes.{block_at}
use Rattle.pass_frames_steps.specs.Phis.{given_phis}
use Rattle.pass_frames_steps.specs.Places.{Framing, edged, fetched, framed, plan}
use Rattle.pass_frames_steps.specs.Related.{AreBuiltOf, AreCellsRight, Building, IsCell, IsDistanceOf, IsKeptValue}
use Rattle.pass_frames_steps.specs.Stepping.{AreGiven}
use Rattle.pass_frames_steps.specs.Stores.{AreNamesStored}
use Rattle.pass_frames_steps.specs.pass_renewed_proof.Renewed.{RenewedGiven}
use Rattle.pass_frames_steps.specs.run_framed.Framed.{frame_rights, framed_context}
use Rattle.pass_frames_steps.proofs.run_laws.access.Blocks.{others_left}
use Rattle.pass_frames_steps.proofs.run_laws.memory.Itself.{owner_rights_fit}
use Rattle.pass_frames_steps.specs.run_laws.access.Accessed.{Span, accessed, led_into}
use Rattle.pass_frames_steps.specs.run_laws.access.Changed.{ChangesOnly, IsNoneOf, LeavesOthers}
use Rattle.pass_frames_steps.specs.run_laws.access.Lines.{Runs}
use Rattle.pass_frames_steps.specs.run_laws.changed.Changed.{Each}
use Rattle.pass_frames_steps.specs.run_laws.memory.Pointers.{Home, IsValue}
use Rattle.pass_frames_steps.specs.run_laws.memory.Standing.{IsAway}
use Rattle.pass_frames_steps.specs.run_laws.transfer.Muted.{muted}
use Rattle.pass_frames_steps.specs.run_laws.transfer.Transfer.{AreOver, muted_world}
use Rattle.pass_frames_steps.proofs.run_access_worked.run_laws_worked.Frames.{frame_rights_fit}
use Rattle.pass_frames_steps.specs.run_memory.Memory.{Rights, is_live, owner_rights, store}
use Rattle.pass_frames_steps.specs.run_memory.declared.block.MemoryBlock.{MemoryBlock}
use Rattle.pass_frames_steps.specs.run_memory.declared.pointer.Value.{Value}
use Rattle.pass_frames_steps.specs.run_source.declared.state.State.{State}
use Rattle.pass_frames_steps.specs.run_step.Step.{AtInstr, Context, Done, Stuck, Work, done, instr_action, is_alignment, label_of, phi_values, phis_of, set_memory, value_at, with_all}
use Rattle.pass_frames_steps.specs.run_step.Values.{Env, access_of, address, arg_value, pointer_to, stored as stored_value, value_in}
use Rattle.pass_frames_steps.specs.run_step.declared.world.World.{World}

-- ---- a store changes memory alone

pub record ChangesMemory (u z : Work) : Type 0 where
  pub values : z.values ≡ u.values
  pub events : z.world.events ≡ u.world.events

memory_changed : (u z : Work) (o : Result (List MemoryBlock) Cause) → done (set_memory u) o ≡ Done z
    → ChangesMemory u z
memory_changed u z (Err cause) e = absurd (cc)
memory_changed u z (Ok m) e =
    let same : set_memory u m ≡ z = cc in record {
      values = sym (ap (λ (q : Work). q.values) same);
      events = sym (ap (λ (q : Work). q.world.events) same);
    }

pub store_changes : (c : Context) (u z : Work) (arg : Arg) (p : Operand) (align : ℕ)
    → instr_action c u (Instr.Store arg p align) ≡ Done z → ChangesMemory u z
store_changes c u z arg p align e = on (is_alignment align) e
  where
    on : (k : Bool)
        → (if k
        then done (set_memory u)
        (store c.rights u.world.memory (address (value_at c u ptr p))
        (stored_value (access_of arg.ty) (arg_value c.code u.values arg)) (access_of arg.ty) align)
        else Stuck Cause.Align) ≡ Done z
        → ChangesMemory u z
    on true d =
        memory_changed u z
        (store c.rights u.world.memory (address (value_at c u ptr p))
        (stored_value (access_of arg.ty) (arg_value c.code u.values arg)) (access_of arg.ty) align) d
    on false d = absurd (cc)

-- ---- a line of stores into cells of kept values

abbrev IsCellStore : Framing → Instr → Type 0
IsCellStore x j = (v : ℕ) × (k : KeptValue) × IsKeptValue x v k × (j ≡ store_to k.ty v k.cell)

one_each : (x : Framing) (v : ℕ) (o : Option KeptValue) → ((k : KeptValue) → o ≡ Some k → IsKeptValue x v k)
    → Each (IsCellStore x) (stored_one v o)
one_each x v None h = tt
one_each x v (Some k) h = ((v, k, h k refl, refl), tt)

at_each : (x : Framing) (v : ℕ) (o : Option ℕ) → entry (plan x).places v ≡ o
    → Each (IsCellStore x) (stored_at (plan x).kept v o)
at_each x v None e = tt
at_each x v (Some n) e =
    one_each x v (slice_get (plan x).kept n) (λ k there. record { number = n; told = e; there = there })

phis_each : (x : Framing) (ps : List Phi) → Each (IsCellStore x) (stored_phis (plan x) ps)
phis_each x [] = tt
phis_each x (p ∷ ps) =
    each_joined (IsCellStore x) (stored (plan x) p.result) (stored_phis (plan x) ps)
    (at_each x p.result (entry (plan x).places p.result) refl) (phis_each x ps)

gives_each : (x : Framing) (m : Module) (line : List Instr) → Each (IsCellStore x) line → Each (GivesNone m) line
gives_each x m =
    each_turns (IsCellStore x) (GivesNone m) (λ j h. subst (GivesNone m) (sym h.3) refl)

-- ---- the front

module _ (b : Building) (g : RenewedGiven) (s t : State) (homes : List Home) (hides : ℕ → Bool)
    (is : IsFraming (b.framing s.top.func)) (fit : AreCellsFit b s t homes hides) (label : ℕ) (line : List Instr)
    (other : Terminator) (ends : EndsLed b g s t homes label line other)
    (phis : PhisGiven b g s t homes label ends.work) where
  abbrev x : Framing
  x = b.framing s.top.func

  abbrev R : Rights
  R = frame_rights b.given t.instances

  abbrev d : Context
  d = framed_context b.given t

  abbrev w : Work
  w = entered_work b t x s.top.block label ends.work

  abbrev ps : List Phi
  ps = (block_at (fetched x) (block_to x label)).phis

  abbrev before : List (ℕ × Value)
  before = given_phis phis.value ps

  abbrev front : List Instr
  front = stored_phis (plan x) ps

  -- ---- cells where the block is entered

  old : AreCellsRight x homes R t.world.memory s.top.values t.top
  old = fit.right

  all : AreAllSet homes (length (edged x).names) s.top.values ends.work.values
      (with_all s.top.values (entered_phis g s x label)) w.values
  all =
      all_set homes (length (edged x).names) s.top.values ends.work.values (entered_phis g s x label)
      (phi_values b.given.given.code ends.work.values (label_of (slice_get (framed x).blocks s.top.block))
      (phis_of (slice_get (framed x).blocks (block_to x label))))
      (let p = fit.enough in let q = ends.room in omega (arith, p, q)) ends.phis

  cell_value : (u : ℕ) → IsCellOf x u → value_in w.values u ≡ value_in t.top.values u
  cell_value u of = all.high u of.0 ∙ ends.low u of.1

  right_there : AreCellsRight x homes R t.world.memory s.top.values (at_work t.top w)
  right_there = record {
    values = λ v q kept.
        cell_turned R t.world.memory t.top (at_work t.top w) q.cell q.ty (IsValue homes
        (value_in s.top.values v)) refl
        (cell_value q.cell (kept_is_cell x is v q kept)) (old.values v q kept);
    distances = λ v cell slot told root.
        cell_turned R t.world.memory t.top (at_work t.top w) cell (int 64)
        (IsDistanceOf (value_in s.top.values slot) (value_in s.top.values v)) refl
        (cell_value cell (distance_of x is v cell told)) (old.distances v cell slot told root);
  }

  right : AreCellsRight x homes R w.world.memory s.top.values (at_work t.top w)
  right =
      subst (λ (u : World). AreCellsRight x homes R u.memory s.top.values (at_work t.top w)) (sym ends.world)
      right_there

  stored_there : AreNamesStored x homes d w t.top (with_all s.top.values before) 0 front
  stored_there =
      phis_stored x is homes d (frame_rights_fit b.given t.instances) s.top.values t.top w phis.value 0 ps
      fit.own phis.each right

  abbrev z : Work
  z = stored_there.work

  -- ---- on the way

  one_on : (u v : Work) (j : Instr) → IsCellStore x j → u.values ≡ w.values → IsOnFront x t u
      → instr_action d u j ≡ Done v → (v.values ≡ w.values) × IsOnFront x t v
  one_on u v j at values on is_done = (
    changes.values ∙ values,
    record {
      events = changes.events ∙ on.events;
      spares = record {
        same = λ n none. only.others n (apart n none) ∙ on.spares.same n none;
      };
    },
  )
    where
      changes : ChangesMemory u v
      changes =
          store_changes d u v (record { ty = at.1.ty; value = Operand.Local at.0 }) (Operand.Local at.1.cell)
          (value_bytes at.1.ty) (subst (λ (i : Instr). instr_action d u i ≡ Done v) at.3 is_done)

      only : ChangesOnly (accessed d u (AtInstr j)) u.world.memory v.world.memory
      only =
          subst (LeavesOthers (accessed d u (AtInstr j)) u.world.memory) is_done (others_left d u (AtInstr j))

      cell : IsCell R t.world.memory t.top at.1.cell at.1.ty (IsValue homes (value_in s.top.values at.0))
      cell = old.values at.0 at.1 at.2

      leads : value_in u.values at.1.cell ≡ pointer_to cell.block
      leads =
          ap (λ (q : Env). value_in q at.1.cell) values ∙ cell_value at.1.cell (kept_is_cell x is at.0 at.1 at.2)
          ∙ cell.address

      accesses : accessed d u (AtInstr j) ≡ cell.block ∷ []
      accesses =
          ap (λ (i : Instr). accessed d u (AtInstr i)) at.3
          ∙ ap (λ (q : Value). led_into (address q)) leads

      apart : (n : ℕ) → IsNoCell x t.top n → IsNoneOf n (accessed d u (AtInstr j))
      apart n none =
          subst (IsNoneOf n) (sym accesses) (
            (λ same. none (record { alloca = at.1.cell; block = cell.block }) cell.own
                (kept_is_cell x is at.0 at.1 at.2) (sym same)),
            tt,
          )

  all_on : (line : List Instr) → Each (IsCellStore x) line → (u v : Work) → u.values ≡ w.values → IsOnFront x t u
      → Runs d line u v → RunsThrough d (IsOnFront x t) line u v
  all_on [] at u v values on runs = runs
  all_on (j ∷ js) at u v values on runs =
      let next : (runs.0.values ≡ w.values) × IsOnFront x t runs.0 =
      one_on u runs.0 j at.0 values on runs.1.0 in (
        on,
        (runs.0, (runs.1.0, all_on js at.1 runs.0 v next.0 next.1 runs.1.1)),
      )

  first : IsOnFront x t w
  first = record {
    events = ap (λ (u : World). u.events) ends.world;
    spares = record { same = λ n none. ap (λ (u : World). slice_get u.memory n) ends.world };
  }

  last : IsOnFront x t z
  last = record {
    events = ap (λ (u : World). u.events) stored_there.over.world ∙ ap (λ (u : World). u.events) ends.world;
    spares = record {
      same = λ n none.
          fills_elsewhere R stored_there.spans w.world.memory z.world.memory n stored_there.over.fills
          (each_turns
          (λ (q : Span). (cell : ℕ) × IsCellOf x cell × Contains t.top.slots (record {
            alloca = cell;
            block =
                q.block;
          }))
          (λ (q : Span). q.block ≡ n → ⊥)
          (λ q k. none (record { alloca = k.0; block = q.block }) k.2 k.1) stored_there.spans stored_there.inside)
          ∙ ap (λ (u : World). slice_get u.memory n) ends.world;
    };
  }

  -- ---- the memories

  away : AreAway owner_rights homes (muted hides s.world.memory) stored_there.spans
  away =
      each_turns
      (λ (q : Span). (cell : ℕ) × IsCellOf x cell × Contains t.top.slots (record { alloca = cell; block = q.block }))
      (λ (q : Span). (n : ℕ) (k : MemoryBlock) → slice_get (muted hides s.world.memory) n ≡ Some k
      → is_live k.life ≡ true → IsAway owner_rights homes n k q.block q.offset q.len)
      (λ q at n k there live same. absurd (fit.free
      (record { alloca = at.0; block = q.block }) at.2 (cell_is_name x at.0 at.1) n k there (inr live) same))
      stored_there.spans stored_there.inside

  over : AreOver owner_rights R homes hides (λ n. n) s.world z.world
  over =
      subst (λ (u : World). AreOver owner_rights R homes hides (λ n. n) s.world u) (sym stored_there.over.world)
      (worlds_stand owner_rights R owner_rights_fit (frame_rights_fit b.given t.instances) homes (λ n. n)
      (muted_world hides s.world) w.world stored_there.spans z.world.memory stored_there.over.fills away
      (subst (λ (u : World). AreOver owner_rights R homes hides (λ n. n) s.world u) (sym ends.world) fit.world))

  pub front_led_by : FrontsLed b g s t homes hides label ends.work front
  front_led_by = record {
    work = z;
    runs = all_on front (phis_each x ps) w z refl first stored_there.over.runs;
    last = last;
    values = stored_there.values;
    over = over;
    gives = gives_each x b.given.given.code front (phis_each x ps);
    right = subst (λ (q : List (ℕ × Value)). AreCellsRight x homes R z.world.memory (with_all s.top.values q)
        (at_work t.top z)) phis.same stored_there.right;
  }

module _ (b : Building) (g : RenewedGiven) (given : AreGiven b g) (s t : State) (r : AreBuiltOf b s t)
    (e other : Terminator) (label : ℕ) (line : List Instr) (h : IsAtJump b g s e label)
    (ends : AreEndsLed b g s t r label line other) (phis : ArePhisGiven b g s t r label ends.work) where
  pub front_led : AreFrontsLed b g s t r label ends.work
      (stored_phis (plan (b.framing s.top.func))
      (block_at (fetched (b.framing s.top.func)) (block_to (b.framing s.top.func) label)).phis)
  front_led =
      front_led_by b g s t r.homes r.hides (given.framings s.top.func h.coroutine) (record {
        right = (cells_before b g given s t r e other label line h ends).0;
        own = own_blocks t r.once;
        free = free_before b g given s t r e other label line h ends;
        world = r.world;
        enough =
            let p = enough b g given s t r e other label line h ends in let q = ends.room in omega (arith, p, q);
      }) label line other ends phis
