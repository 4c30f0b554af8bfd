-- An activation of a coroutine is given the result of its call, and stores it into its cell.
use Rattle.std.proofs.Common.{◌≡◌, inr, ℕ, ◌+◌, ◌-◌, ◌<◌, ◌≤◌, true, List, [], ◌∷◌, length, refl, sym, ap, ◌∙◌, subst, arith, append-nil}
use Rattle.std.specs.List.{Contains}
use Rattle.std.specs.Prelude.{None, Option, Some, slice_get}
use Rattle.pass_frames_steps.specs.ir_base.declared.outcome.Outcome.{Outcome}
use Rattle.pass_frames_steps.proofs.ir_laws.facts.Members.{each_turns}
use Rattle.pass_frames_steps.specs.ir_model.Names.{function_at}
use Rattle.pass_frames_steps.specs.ir_model.Ty.{int}
use Rattle.pass_frames_steps.specs.ir_model.declared.instr.Instr.{Instr}
use Rattle.pass_frames_steps.specs.ir_model.declared.module.Function.{Function}
use Rattle.pass_frames_steps.specs.ir_paths.declared.point.Point.{Point}
use Rattle.pass_frames_steps.specs.pass_cells.Written.{stored, stored_result}
use Rattle.pass_frames_proof.proofs.jumping.Pairs.{AreAllSet, all_set}
use Rattle.pass_frames_steps.proofs.led.Steps.{fills_elsewhere, short_result}
use Rattle.pass_frames_steps.proofs.led.Through.{one_through}
use Rattle.pass_frames_steps.proofs.lined.Lines.{each_between, line_leads}
use Rattle.pass_frames_steps.proofs.lines.Filled.{worlds_stand}
use Rattle.pass_frames_steps.proofs.lines.Names.{distance_of}
use Rattle.pass_frames_steps.proofs.lines.Results.{kept_is_cell}
use Rattle.pass_frames_steps.proofs.lines.Stored.{names_stored}
use Rattle.pass_frames_proof.proofs.returning.Behind.{CallStands, call_stands}
use Rattle.pass_frames_steps.proofs.stepping.After.{cell_turned}
use Rattle.pass_frames_steps.proofs.stepping.Fetch.{coroutine_values, not_returned, own_blocks}
use Rattle.pass_frames_steps.proofs.stepping.Landing.{landed, own_free, spared_shown}
use Rattle.pass_frames_steps.proofs.stepping.Line.{stored_gives}
use Rattle.pass_frames_steps.proofs.stepping.Names.{cell_is_name, named_written, slots_new, edged_named}
use Rattle.pass_frames_steps.proofs.stepping.Operands.{asked}
use Rattle.pass_frames_steps.proofs.stepping.Stands.{top_is}
use Rattle.pass_frames_steps.specs.Edges.{IsOnFront}
use Rattle.pass_frames_steps.specs.Followed.{IsOn}
use Rattle.pass_frames_steps.specs.Framings.{IsFraming}
use Rattle.pass_frames_steps.specs.Landing.{LeavesCells}
use Rattle.pass_frames_steps.specs.Led.{RunsThrough, SparesBlocks}
use Rattle.pass_frames_steps.specs.Lined.{GivesNone, lined}
use Rattle.pass_frames_steps.specs.Lines.{AreAway, AreInCells, IsCellOf, at_work}
use Rattle.pass_frames_steps.specs.Places.{Framing, edged, framed, own_place, place, plan, written}
use Rattle.pass_frames_steps.specs.Related.{AreBuiltOf, AreCellsRight, AreCoroutines, AreWheresRight, Building, HasCells, IsDistanceOf, instance_in, is_coroutine}
use Rattle.pass_frames_steps.specs.Returning.{FitsResult, IsBehindCall}
use Rattle.pass_frames_steps.specs.Stepping.{AreGiven}
use Rattle.pass_frames_steps.specs.Stores.{AreNamesStored, IsNameGiven}
use Rattle.pass_frames_steps.proofs.pass_renewed_proof.EnteredValues.{set_here}
use Rattle.pass_frames_steps.specs.pass_renewed_proof.Renewed.{RenewedGiven}
use Rattle.pass_frames_steps.specs.run_agreement.Machines.{iterate}
use Rattle.pass_frames_steps.specs.run_framed.Framed.{frame_rights, framed_context, framed_step}
use Rattle.pass_frames_steps.proofs.run_laws.memory.Itself.{owner_rights_fit}
use Rattle.pass_frames_steps.proofs.run_laws.transfer.Sets.{set_elsewhere}
use Rattle.pass_frames_steps.specs.run_laws.access.Accessed.{Span}
use Rattle.pass_frames_steps.specs.run_laws.access.Lines.{StandAt}
use Rattle.pass_frames_steps.specs.run_laws.changed.Changed.{Each}
use Rattle.pass_frames_steps.specs.run_laws.memory.Pointers.{IsValue}
use Rattle.pass_frames_steps.specs.run_laws.memory.Standing.{IsAway}
use Rattle.pass_frames_steps.specs.run_laws.transfer.Muted.{muted}
use Rattle.pass_frames_steps.specs.run_laws.transfer.Transfer.{AreOver, muted_world}
use Rattle.pass_frames_steps.proofs.run_access_worked.run_laws_worked.Frames.{frame_rights_fit}
use Rattle.pass_frames_steps.specs.run_memory.Memory.{Rights, is_live, owner_rights}
use Rattle.pass_frames_steps.specs.run_memory.declared.block.MemoryBlock.{MemoryBlock}
use Rattle.pass_frames_steps.specs.run_memory.declared.pointer.Value.{Value}
use Rattle.pass_frames_steps.specs.run_source.State.{function_of}
use Rattle.pass_frames_steps.specs.run_source.declared.state.State.{State}
use Rattle.pass_frames_steps.specs.run_step.Step.{Context, Work}
use Rattle.pass_frames_steps.specs.run_step.Values.{Env, value_in, with_result, with_value}
use Rattle.pass_frames_steps.specs.run_step.declared.world.World.{World}

-- ---- a line that fills cells of a coroutine on top leaves the source where it stands

module _ (b : Building) (s t : State) (r : AreBuiltOf b s t)
    (framings : (func : ℕ) → is_coroutine b func ≡ true → IsFraming (b.framing func))
    (coroutine : is_coroutine b s.top.func ≡ true) (spans : List Span) (u : World)
    (inside : AreInCells (b.framing s.top.func) t.top spans) where
  away : AreAway owner_rights r.homes (muted r.hides s.world.memory) spans
  away =
      each_turns
      (λ (q : Span). (cell : ℕ) × IsCellOf (b.framing s.top.func) cell
      × Contains t.top.slots (record { alloca = cell; block = q.block }))
      (λ (q : Span). (n : ℕ) (k : MemoryBlock) → slice_get (muted r.hides s.world.memory) n ≡ Some k
      → is_live k.life ≡ true → IsAway owner_rights r.homes n k q.block q.offset q.len)
      (λ q at n k there live same. absurd (own_free b s t r framings coroutine
      (record { alloca = at.0; block = q.block }) at.2 (cell_is_name (b.framing s.top.func) at.0 at.1) n k there
      (inr live) same))
      spans inside

-- ---- the result

module _ (b : Building) (g : RenewedGiven) (given : AreGiven b g) (s t : State) (r : AreBuiltOf b s t)
    (running : t.outcome ≡ Outcome.Running) (coroutine : is_coroutine b s.top.func ≡ true) (o : Option ℕ)
    (behind : IsBehindCall b s.top o) (v u : Value) (fits : FitsResult (b.framing s.top.func) o v)
    (stands : IsValue r.homes v u) where
  abbrev x : Framing
  x = b.framing s.top.func

  abbrev R : Rights
  R = frame_rights b.given t.instances

  abbrev d : Context
  d = framed_context b.given t

  abbrev k : ℕ
  k = s.top.block

  is : IsFraming x
  is = given.framings s.top.func coroutine

  abbrev env : Env
  env = with_result s.top.values o v

  abbrev other : Env
  other = with_result t.top.values o u

  abbrev rest : List Instr
  rest = stored_result (plan x) o

  abbrev pub own_at : ℕ
  own_at = (own_place x (record { block = k; at = behind.at })).at + 1

  -- the framed activation right behind its call, with its result
  abbrev pub start : State
  start = record t { top = record t.top { block = k; at = own_at; values = other } }

  abbrev P : Work → Type 0
  P = IsOnFront x t

  -- ---- values

  old : AreCoroutines x r.homes R t s.top t.top
  old = coroutine_values b r.homes R t s.top t.top (is_coroutine b s.top.func) coroutine r.top.values

  cells : AreCellsRight x r.homes R t.world.memory s.top.values t.top
      × AreWheresRight x R t.world.memory (instance_in t.instances t.top.instance) t.top
  cells =
      subst (λ (q : Option ℕ). HasCells x r.homes R t.world.memory
      (instance_in t.instances t.top.instance) s.top t.top q)
      (not_returned x s.top s.top.mode behind.mode behind.unreturned) old.cells

  enough : length s.top.values ≤ length t.top.values
  enough = let a = behind.room in let e = behind.wide in let f = old.names.room in omega (arith, a, e, f)

  record IsSet (q : Option ℕ) : Type 0 where
    all : AreAllSet r.homes (length (edged x).names) s.top.values t.top.values (with_result s.top.values q v)
        (with_result t.top.values q u)

  low_name : (q : ℕ) → o ≡ Some q → q < length (edged x).names
  low_name q e = (behind.plain q e).name.low

  set_by : (q : Option ℕ) → o ≡ q → IsSet q
  set_by None e = record { all = all_set r.homes (length (edged x).names) s.top.values t.top.values [] [] enough tt }
  set_by (Some q) e = record {
    all = all_set r.homes (length (edged x).names) s.top.values t.top.values ((q, v) ∷ []) ((q, u) ∷ []) enough
        ((refl, low_name q e, stands), tt);
  }

  all : AreAllSet r.homes (length (edged x).names) s.top.values t.top.values env other
  all = (set_by o refl).all

  abbrev w : Work
  w = record { world = t.world; values = other }

  cell_value : (n : ℕ) → IsCellOf x n → value_in other n ≡ value_in t.top.values n
  cell_value n of = all.high n of.0

  right_there : AreCellsRight x r.homes R t.world.memory s.top.values (at_work t.top w)
  right_there = record {
    values = λ n q kept.
        cell_turned R t.world.memory t.top (at_work t.top w) q.cell q.ty (IsValue r.homes
        (value_in s.top.values n)) refl
        (cell_value q.cell (kept_is_cell x is n q kept)) (cells.0.values n q kept);
    distances = λ n cell slot told root.
        cell_turned R t.world.memory t.top (at_work t.top w) cell (int 64)
        (IsDistanceOf (value_in s.top.values slot) (value_in s.top.values n)) refl
        (cell_value cell (distance_of x is n cell told)) (cells.0.distances n cell slot told root);
  }

  -- ---- the store

  pub record IsStored (q : Option ℕ) : Type 0 where
    pub stores : AreNamesStored x r.homes d w t.top (with_result s.top.values q v) 0 (stored_result (plan x) q)

  stored_by : (q : Option ℕ) → o ≡ q → IsStored q
  stored_by None e = record {
    stores = names_stored x is r.homes d (frame_rights_fit b.given t.instances) t.top 0
        (own_blocks t r.once) [] s.top.values w tt right_there;
  }
  stored_by (Some q) e = record {
    stores = subst (λ (line : List Instr). AreNamesStored x r.homes d w t.top (with_value s.top.values q v) 0 line)
        (append-nil (stored (plan x) q))
        (names_stored x is r.homes d (frame_rights_fit b.given t.instances) t.top 0 (own_blocks t r.once)
        ((q, v) ∷ []) s.top.values w (name_given, tt) right_there);
  }
    where
      name_given : IsNameGiven x r.homes w (q, v)
      name_given = record {
        stands = subst (IsValue r.homes v) (sym there) stands;
        storable = λ j kept. fits q j e kept;
        no_root = (behind.plain q e).name.no_root;
        no_distance = (behind.plain q e).no_distance;
      }
        where
          there : value_in other q ≡ u
          there =
              ap (λ (p : Option ℕ). value_in (with_result t.top.values p u) q) e
              ∙ set_here t.top.values q u
              (let lt = low_name q e in let a = behind.room in let f = enough in omega (arith, lt, a, f))

  pub stores : AreNamesStored x r.homes d w t.top env 0 rest
  stores = (stored_by o refl).stores

  abbrev z : Work
  z = stores.work

  spared : SparesBlocks x t.top t.world.memory z.world.memory
  spared = record {
    same = λ e none.
        fills_elsewhere R stores.spans t.world.memory z.world.memory e stores.over.fills
        (each_turns
        (λ (q : Span). (name : ℕ) × IsCellOf x name × Contains t.top.slots (record { alloca = name; block = q.block }))
        (λ (q : Span). q.block ≡ e → ⊥)
        (λ q at. none (record { alloca = at.0; block = q.block }) at.2 at.1) stores.spans stores.inside);
  }

  over : AreOver owner_rights R r.homes r.hides (λ n. n) s.world z.world
  over =
      subst (λ (q : World). AreOver owner_rights R r.homes r.hides (λ n. n) s.world q) (sym stores.over.world)
      (worlds_stand owner_rights R owner_rights_fit (frame_rights_fit b.given t.instances) r.homes (λ n. n)
      (muted_world r.hides s.world) t.world stores.spans z.world.memory stores.over.fills
      (away b s t r given.framings coroutine stores.spans z.world stores.inside) r.world)

  same_value : (n : ℕ) → value_in z.values n ≡ value_in other n
  same_value n = ap (λ (q : Env). value_in q n) stores.values

  high : (n : ℕ) → length (written x).names ≤ n → value_in z.values n ≡ value_in t.top.values n
  high n le =
      same_value n
      ∙ all.high n (let a = edged_named x in let e = named_written x in omega (arith, a, e, le))

  leaves : LeavesCells b s t r s.world env z
  leaves = record {
    source = refl;
    over = over;
    spares = spared;
    right = stores.right;
    room = ap (λ (q : Env). length q) stores.values ∙ all.target;
    names = λ n unkept out.
        subst (IsValue r.homes (value_in env n)) (sym (same_value n))
        (all.each n (old.names.each n (asked x s.top s.top.mode n behind.mode) unkept out));
    wheres = λ e listed. (high e.cell (slots_new x e listed).1, high e.temporary (slots_new x e listed).0);
    allocas = λ at n align ty e.
        let a = behind.allocas at n align ty e in (a.0, same_value n ∙ other_stays o refl n a.1);
  }
    where
      other_stays : (q : Option ℕ) → o ≡ q → (n : ℕ) → (o ≡ Some n → ⊥)
          → value_in (with_result t.top.values q u) n ≡ value_in t.top.values n
      other_stays None e n differ = refl
      other_stays (Some q) e n differ =
          set_elsewhere t.top.values q n u (λ same. differ (e ∙ ap Some same))

  -- ---- it is executed

  code : CallStands x k behind.at behind.call
  code = call_stands x is k behind.at behind.call behind.there behind.unreturned behind.switches behind.unlocated

  framed_is : function_of b.given.given t ≡ framed x
  framed_is = (λ i. function_at (given.code i) (r.top.func i)) ∙ (given.built.coroutines s.top.func coroutine).is

  stand : StandAt (function_of b.given.given start) k own_at rest
  stand =
      subst (λ (f : Function). StandAt f k own_at rest) (sym framed_is)
      (subst (λ (q : Option ℕ). StandAt (framed x) k own_at (stored_result (plan x) q)) behind.given code.behind)

  none : Each (GivesNone b.given.given.code) rest
  none = stored_gives b.given.given.code x o

  begins : P w
  begins = record { events = refl; spares = record { same = λ e no. refl } }

  through : RunsThrough d P rest w z
  through = one_through d P rest w z (short_result x o) begins stores.over.runs

  pub leads : iterate (framed_step b.given) (length rest) start ≡ lined start (length rest) z
  leads = line_leads b.given start P rest z running stand none through

  pub shown : (j : ℕ) → j < length rest → IsOn b s (iterate (framed_step b.given) j start)
  shown j lt =
      let q = each_between b.given start P rest z running stand none through j lt in
      subst (IsOn b s) (sym q.1.0)
      (spared_shown b s t r given.framings coroutine running q.0.world (lined start j q.0).top q.1.1.events q.1.1.spares)

  next_place : ◌≡◌ {A = Point} (record { block = k; at = own_at + length rest })
      (place x (record { block = k; at = s.top.at }))
  next_place =
      sym (ap (λ (n : ℕ). place x (record { block = k; at = n })) behind.behind
      ∙ ap (λ (n : ℕ). record { block = k; at = n })
      (code.next ∙ ap (λ (q : Option ℕ). own_at + length (stored_result (plan x) q)) behind.given))

  pub related : AreBuiltOf b (record s { top = record s.top { values = env } }) (lined start (length rest) z)
  related =
      landed b s t r given.framings coroutine behind.mode behind.unreturned s.world env z leaves k s.top.at k
      (own_at + length rest) behind.unreturned (λ zero. (zero, same s.top.at))
      (next_place ∙ sym (top_is b (record s.top { values = env }) coroutine behind.mode))
    where
      same : (n : ℕ) → n ≤ n
      same n = omega arith

  -- what it costs
  pub cost : (place x (record { block = k; at = s.top.at })).at - own_at ≡ length rest
  cost = ap (λ (p : Point). p.at - own_at) (sym next_place) ∙ take own_at (length rest)
    where
      take : (a n : ℕ) → (a + n) - a ≡ n
      take a n = omega arith
