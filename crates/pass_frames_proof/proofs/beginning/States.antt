-- Behind begin and the copies the two states are related, and on the way the framed run shows what it showed.
use Rattle.std.proofs.Common.{◌≡◌, ◌+◌, ◌-◌, ◌<◌, ◌≤◌, ◌∷◌, ◌∙◌, [], List, ap, arith, inl, length, length-append, refl, subst, sym, ℕ, ⊎_elim}
use Rattle.std.proofs.lemmas.Bool.{cases_lt}
use Rattle.pass_frames_steps.proofs.ir_laws.facts.Lists.{get_within}
use Rattle.pass_frames_steps.specs.ir_model.declared.instr.Instr.{Instr}
use Rattle.pass_frames_steps.proofs.allocating.Grown.{other_get}
use Rattle.pass_frames_steps.proofs.allocating.Made.{right_more}
use Rattle.pass_frames_proof.proofs.beginning.Becoming.{copies_gives}
use Rattle.pass_frames_proof.proofs.beginning.Copied.{early, w0}
use Rattle.pass_frames_proof.proofs.beginning.Frame.{C}
use Rattle.pass_frames_proof.proofs.beginning.Given.{Begins}
use Rattle.pass_frames_proof.proofs.beginning.Homes.{hides, homes}
use Rattle.pass_frames_proof.proofs.beginning.Instances.{moved_now}
use Rattle.pass_frames_proof.proofs.beginning.Loads.{Front, M0, One, W, loads_run, same_world, still}
use Rattle.pass_frames_proof.proofs.beginning.Places.{B, X, held, y0, ys}
use Rattle.pass_frames_proof.proofs.beginning.Rest.{IsOther, c'', frame_other, moves, now, u', w, xs}
use Rattle.pass_frames_proof.proofs.beginning.Steps.{Copies, begin_is, begun_top, c', cost, loads_gives, loads_lead, parted, runs_there, source_is, tB}
use Rattle.pass_frames_proof.proofs.beginning.Top.{t'', top_moved}
use Rattle.pass_frames_steps.proofs.followed.Assembly.{events_same, other_instance}
use Rattle.pass_frames_steps.proofs.led.Steps.{still_world}
use Rattle.pass_frames_steps.proofs.lined.Lines.{each_between, line_last}
use Rattle.pass_frames_steps.proofs.moved.Rest.{moved_related}
use Rattle.pass_frames_steps.proofs.stepping.Shown.{still_shown}
use Rattle.pass_frames_steps.specs.Beginning.{IsAtBegin}
use Rattle.pass_frames_steps.specs.Early.{IsButCells}
use Rattle.pass_frames_steps.specs.Followed.{IsFollowed, IsOn}
use Rattle.pass_frames_steps.specs.Led.{IsStill, RunsThrough}
use Rattle.pass_frames_steps.specs.Lined.{GivesNone, lined}
use Rattle.pass_frames_steps.specs.Meaning.{step_cost}
use Rattle.pass_frames_steps.specs.Places.{Framing, copies}
use Rattle.pass_frames_steps.specs.Related.{AreBuiltOf, Building, IsStatus}
use Rattle.pass_frames_steps.specs.Stepping.{AreGiven}
use Rattle.pass_frames_steps.specs.pass_renewed_proof.Renewed.{RenewedGiven}
use Rattle.pass_frames_steps.proofs.run_agreement.Runs.{iterate-add}
use Rattle.pass_frames_steps.specs.run_agreement.Machines.{iterate}
use Rattle.pass_frames_steps.specs.run_framed.Framed.{frame_rights, framed_context, framed_step}
use Rattle.pass_frames_steps.specs.run_laws.access.Lines.{Holds, Runs}
use Rattle.pass_frames_steps.specs.run_laws.changed.Changed.{Each}
use Rattle.pass_frames_steps.specs.run_laws.memory.Pointers.{Extends}
use Rattle.pass_frames_steps.specs.run_memory.Memory.{Rights}
use Rattle.pass_frames_steps.specs.run_memory.declared.block.Byte.{Byte}
use Rattle.pass_frames_steps.specs.run_source.State.{work_of}
use Rattle.pass_frames_steps.specs.run_source.declared.state.Activation.{Activation}
use Rattle.pass_frames_steps.specs.run_source.declared.state.Instance.{Instance}
use Rattle.pass_frames_steps.specs.run_source.declared.state.State.{State}
use Rattle.pass_frames_steps.specs.run_source.declared.state.Status.{Status}
use Rattle.pass_frames_steps.specs.run_step.Step.{Context, Work}
use Rattle.pass_frames_steps.specs.run_step.declared.world.World.{World}

-- a line that leaves the world as it is does so at each of its instructions
still_through : (c : Context) (world : World) (line : List Instr) → Each IsStill line → (w z : Work)
    → w.world ≡ world → Runs c line w z → RunsThrough c (λ (u : Work). u.world ≡ world) line w z
still_through c world [] calm w z same r = r
still_through c world (i ∷ is) calm w z same r = (
  same,
  (
    r.0,
    (
      r.1.0,
      still_through c world is calm.1 r.0 z (still_world c w r.0 i calm.0 r.1.0 ∙ same) r.1.1,
    ),
  ),
)

module _ (facts : Begins) where
  abbrev b : Building
  b = facts.b

  abbrev g : RenewedGiven
  g = facts.g

  abbrev s : State
  s = facts.s

  abbrev t : State
  t = facts.t

  abbrev r : AreBuiltOf b s t
  r = facts.r

  abbrev given : AreGiven b g
  given = facts.given

  abbrev block : ℕ
  block = facts.block

  abbrev h : IsAtBegin b g s facts.result facts.must_tail facts.ty facts.id facts.typed facts.memory block
  h = facts.h

  abbrev x : Framing
  x = X facts

  abbrev k : ℕ
  k = B facts

  abbrev P0 : Rights
  P0 = frame_rights b.given t.instances

  abbrev Q0 : Rights
  Q0 = frame_rights b.given (now facts)

  abbrev D : Context
  D = framed_context b.given (tB facts)

  abbrev z : Work
  z = (C facts).work

  -- ---- the framed run

  begun_lead : iterate (framed_step b.given) (length (Front facts) + 1) t ≡ tB facts
  begun_lead =
      iterate-add (framed_step b.given) (length (Front facts)) 1 t
      ∙ ap (framed_step b.given) (loads_lead facts) ∙ begin_is facts

  copies_none : Each (GivesNone b.given.given.code) (Copies facts)
  copies_none = copies_gives x s.top.block b.given.given.code (M0 facts) (copies x).slots

  last_is : iterate (framed_step b.given) (length (Copies facts)) (tB facts) ≡ t'' facts
  last_is =
      line_last b.given (tB facts) (Copies facts) z (runs_there facts) (parted facts).1.1 copies_none
      (C facts).over.runs
      ∙ ap (λ (q : World). record (tB facts) {
        world = q;
        top = record (c' facts) { at = (c' facts).at + length (Copies facts); values = z.values };
      }) (C facts).over.world

  abbrev steps : ℕ
  steps = length (Front facts) + 1 + length (Copies facts)

  all_lead : iterate (framed_step b.given) steps t ≡ t'' facts
  all_lead =
      iterate-add (framed_step b.given) (length (Front facts) + 1) (length (Copies facts)) t
      ∙ ap (iterate (framed_step b.given) (length (Copies facts))) begun_lead ∙ last_is

  -- ---- what is shown on the way

  -- up to begin the world is as it was
  before : (i : ℕ) → i ≤ length (Front facts) → IsOn b s (iterate (framed_step b.given) i t)
  before i le = ⊎_elim
      (λ (lt : i < length (Front facts)).
      let u = each_between b.given t (λ (u : Work). u.world ≡ t.world) (Front facts) (W facts) (runs_there facts)
      (parted facts).0 (loads_gives facts)
      (still_through (framed_context b.given t) t.world (Front facts) (still facts) (work_of t) (W facts) refl
      (loads_run facts)) i lt in
      subst (IsOn b s) (sym u.1.0) (still_shown b s t r given.framings (runs_there facts) i u.0 u.1.1))
      (λ (more : length (Front facts) ≤ i).
      let same : length (Front facts) ≡ i = omega (arith, le, more) in
      subst (λ (n : ℕ). IsOn b s (iterate (framed_step b.given) n t)) same
      (subst (IsOn b s)
      (sym (line_last b.given t (Front facts) (W facts) (runs_there facts) (parted facts).0 (loads_gives facts)
      (loads_run facts)))
      (still_shown b s t r given.framings (runs_there facts) (length (Front facts)) (W facts) (same_world facts))))
      (cases_lt i (length (Front facts)))

  same_homes : Extends r.homes r.homes
  same_homes = record { each = λ n e. refl }

  -- behind it frames of other instances are as they were
  module _ (u : Work) (spared : IsButCells t.top k (early facts) (w0 facts) u) where
    held_on_way : (d : ℕ) → IsOther facts d → (o most : ℕ) (bytes : List Byte)
        → Holds P0 t.world.memory d o most bytes → Holds Q0 u.world.memory d o most bytes
    held_on_way d other o most bytes f =
        let e = held facts d other.0 o most bytes f in
        record {
          block = e.block;
          there = spared.others d other.0 other.1 ∙ e.there;
          live = e.live;
          writable = e.writable;
          whole = e.whole;
          within = e.within;
          holds = e.holds;
          unclosed = e.unclosed;
          aligned = e.aligned;
        }

    module _ (c : Activation) where
      abbrev tu : State
      tu = record t { world = u.world; instances = ys facts; top = c }

      status_shown : (p y : Instance) → IsOther facts y.block → (q : Status) → IsStatus b r.homes t p y q y.status
          → IsStatus b r.homes tu p y q y.status
      status_shown p y other Status.Running q = q
      status_shown p y other Status.Finished q = q
      status_shown p y other (Status.Suspended point env) q = (
        q.0,
        q.1,
        q.2,
        q.3,
        λ live.
            right_more P0 Q0 t.world.memory u.world.memory r.homes r.homes same_homes y.block
            (held_on_way y.block other) (b.framing p.coroutine) q.1 env y.start (q.4 live),
      )

      behind_shown : IsOn b s tu
      behind_shown = record {
        running = runs_there facts;
        shown = record {
          homes = r.homes;
          events = ap (λ (q : World). q.events) spared.world ∙ events_same b s t r;
          outcome = r.outcome;
          instances = λ j p e suspended.
              let y = other_instance b s t r j p e in
              let lt : j < length t.instances = get_within t.instances j y.0 y.1 in (
                y.0,
                other_get t.instances (y0 facts) j (λ same. not_last j lt same) ∙ y.1,
                record {
                  coroutine = y.2.coroutine;
                  is_coroutine = y.2.is_coroutine;
                  block = y.2.block;
                  start = y.2.start;
                  status = status_shown p y.0 (frame_other facts j y.0 y.1) p.status y.2.status;
                  last_save = y.2.last_save;
                  released = y.2.released;
                  freed = y.2.freed;
                  slots = y.2.slots;
                  no_slots = y.2.no_slots;
                },
              );
        };
      }
        where
          not_last : (j : ℕ) → j < length t.instances → j ≡ length t.instances → ⊥
          not_last j lt same = omega (arith, lt, same)

  behind : (j : ℕ) → j < length (Copies facts) → IsOn b s (iterate (framed_step b.given) j (tB facts))
  behind j lt =
      let u = each_between b.given (tB facts) (IsButCells t.top k (early facts) (w0 facts)) (Copies facts) z
      (runs_there facts) (parted facts).1.1 copies_none (C facts).through j lt in
      subst (IsOn b s) (sym u.1.0) (behind_shown u.0 u.1.1 (lined (tB facts) j u.0).top)

  on_way : (i : ℕ) → i < steps → IsOn b s (iterate (framed_step b.given) i t)
  on_way i lt = ⊎_elim
      (λ (less : i < length (Front facts) + 1). before i (omega (arith, less)))
      (λ (le : length (Front facts) + 1 ≤ i).
      let same : length (Front facts) + 1 + (i - (length (Front facts) + 1)) ≡ i = omega (arith, le) in
      subst (λ (n : ℕ). IsOn b s (iterate (framed_step b.given) n t)) same
      (subst (IsOn b s)
      (sym (iterate-add (framed_step b.given) (length (Front facts) + 1) (i - (length (Front facts) + 1)) t
      ∙ ap (iterate (framed_step b.given) (i - (length (Front facts) + 1))) begun_lead))
      (behind (i - (length (Front facts) + 1)) (omega (arith, lt, le)))))
      (cases_lt i (length (Front facts) + 1))

  -- ---- the relation

  related : AreBuiltOf b
      (record s { world = w facts; instances = xs facts; top = begun_top g.given s facts.result block }) (t'' facts)
  related =
      moved_related b s t r (homes facts) (hides facts) (xs facts) (now facts) (w facts) (u' facts)
      (begun_top g.given s facts.result block) (c'' facts) (moves facts) (moved_now facts) (top_moved facts)

  few : steps ≤ step_cost b g s s.top.mode
  few =
      subst (λ (n : ℕ). steps ≤ n) (sym (cost facts))
      (let e = length-append (Front facts) (One facts ∷ Copies facts) in
      let c : length (One facts ∷ Copies facts) ≡ 1 + length (Copies facts) = omega arith in
      omega (arith, e, c))

  pub begin_followed : IsFollowed b g s t
  begin_followed = record {
    steps = steps;
    few = few;
    goes_on = inl (omega arith);
    passes = λ i pos lt. inl (on_way i lt);
    related = subst (λ (p : State × State). AreBuiltOf b p.0 p.1) (λ j. (sym (source_is facts) j, sym all_lead j))
        related;
  }
