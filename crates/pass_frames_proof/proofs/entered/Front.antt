-- Behind its allocas the front of an entry stores addresses of temporaries and parameters into their cells.
use Rattle.std.proofs.Common.{◌≡◌, ◌≢◌, inl, inr, ℕ, zero, suc, ◌<◌, ◌≤◌, List, [], ◌∷◌, ◌++◌, length, refl, sym, ap, ◌∙◌, subst, arith}
use Rattle.std.specs.List.{Contains}
use Rattle.std.specs.Prelude.{None, slice_index_or}
use Rattle.pass_frames_steps.specs.flow_solver.Paths.{IsListed}
use Rattle.pass_frames_steps.proofs.ir_laws.facts.Members.{each_joined, each_turns}
use Rattle.pass_frames_steps.specs.ir_laws.paths.woven_rules.Pairs.{AreDifferent}
use Rattle.pass_frames_steps.specs.ir_model.Ty.{Ty, int, ptr}
use Rattle.pass_frames_steps.specs.pass_cells.Written.{stored_params}
use Rattle.pass_frames_steps.specs.pass_copies.declared.slot.EarlySlot.{EarlySlot}
use Rattle.pass_frames_steps.proofs.entry.Params.{params_stored}
use Rattle.pass_frames_steps.proofs.entry.Puts.{puts_done}
use Rattle.pass_frames_steps.proofs.lines.Cells.{cell_has, cell_stays, other_block}
use Rattle.pass_frames_steps.proofs.lines.Filled.{over_joined}
use Rattle.pass_frames_steps.proofs.lines.Names.{distance_of}
use Rattle.pass_frames_steps.proofs.lines.Results.{kept_is_cell}
use Rattle.pass_frames_steps.proofs.stepping.Names.{named_written, slots_new}
use Rattle.pass_frames_steps.specs.Entered.{IsEntryName, IsEntryStored, temporary_of}
use Rattle.pass_frames_steps.specs.Entry.{ArePut, MayPut, cells_of, puts_of}
use Rattle.pass_frames_steps.specs.Framings.{IsFraming}
use Rattle.pass_frames_steps.specs.Lines.{HasOwnBlocks, IsCellOf, at_work}
use Rattle.pass_frames_steps.specs.Places.{Framing, copies, edged, named, plan, written}
use Rattle.pass_frames_steps.specs.Related.{Anything, AreCellsThere, AreWheresRight, IsCell, IsWhere}
use Rattle.pass_frames_steps.specs.Stores.{AreNamesStored, IsNameGiven, given_params}
use Rattle.pass_frames_steps.specs.run_laws.access.Accessed.{Span}
use Rattle.pass_frames_steps.specs.run_laws.changed.Changed.{Each}
use Rattle.pass_frames_steps.specs.run_laws.memory.Pointers.{Home, IsValue}
use Rattle.pass_frames_steps.specs.run_laws.memory.Standing.{AreByteRights}
use Rattle.pass_frames_steps.specs.run_memory.declared.pointer.Value.{Value}
use Rattle.pass_frames_steps.specs.run_source.declared.state.Activation.{Activation}
use Rattle.pass_frames_steps.specs.run_step.Step.{Context, Work, entry_values}
use Rattle.pass_frames_steps.specs.run_step.Values.{Env, value_in}

each_at : (P : EarlySlot → Type 0) (ss : List EarlySlot) → Each P ss → (s : EarlySlot) (k : ℕ) → k < length ss
    → slice_index_or ss k s ≡ s → P s
each_at P [] h s k lt e = absurd (omega (arith, lt))
each_at P (u ∷ ss) h s zero lt e = subst P e h.0
each_at P (u ∷ ss) h s (suc k) lt e = each_at P ss h.1 s k (omega (arith, lt)) e

pub cell_listed : (ss : List EarlySlot) (q : ℕ) → IsListed q (cells_of ss)
    → (s : EarlySlot) × Contains ss s × (q ≡ s.cell)
cell_listed [] q l = absurd l
cell_listed (u ∷ ss) q (inl e) = (u, (0, omega arith, refl), e)
cell_listed (u ∷ ss) q (inr l) =
    let r = cell_listed ss q l in
    let lt : r.1.0 < length ss = r.1.1 in
    (r.0, (suc r.1.0, omega (arith, lt), r.1.2), r.2)

module _ (x : Framing) (is : IsFraming x) (homes : List Home) (d : Context) (law : AreByteRights d.rights)
    (a : Activation) (own : HasOwnBlocks a) (w : Work) (args : List Value) (n : ℕ)
    (long : length args ≡ length (edged x).params)
    (given : Each (IsNameGiven x homes w) (given_params (edged x).params args))
    (there : AreCellsThere x d.rights w.world.memory (at_work a w))
    (once : AreDifferent (cells_of (copies x).slots))
    (may : Each (MayPut d.rights w.world.memory (at_work a w) temporary_of n) (copies x).slots) where
  abbrev slots : List EarlySlot
  slots = (copies x).slots

  -- an early slot's cell is none of a kept value
  early_apart : (cell q : ℕ) → IsCellOf x cell → IsListed q (cells_of slots) → q ≡ cell → ⊥
  early_apart cell q of l same =
      let k = cell_listed slots q l in
      let lt : cell < length (named x).names = of.1 in
      let high : length (written x).names ≤ k.0.cell = (slots_new x k.0 k.1).1 in
      let far : length (named x).names ≤ length (written x).names = named_written x in
      let e : q ≡ k.0.cell = k.2 in
      omega (arith, lt, high, far, e, same)

  puts : ArePut d w a temporary_of n slots
  puts = puts_done d law a own temporary_of n slots w once may

  abbrev w1 : Work
  w1 = puts.work

  stays : (cell : ℕ) (ty : Ty) → IsCellOf x cell
      → IsCell d.rights w.world.memory (at_work a w) cell ty Anything
      → IsCell d.rights w1.world.memory (at_work a w1) cell ty Anything
  stays cell ty of h =
      cell_stays d.rights law puts.spans w.world.memory w1.world.memory a w w1 cell ty Anything puts.over.fills h
      (each_turns
      (λ (z : Span). (q : ℕ) × IsListed q (cells_of slots) × Contains a.slots (record { alloca = q; block = z.block }))
      (λ (z : Span). z.block ≢ h.block)
      (λ z k. other_block a k.0 cell z.block h.block own k.2 h.own (λ e. early_apart cell k.0 of k.1 e))
      puts.spans puts.inside)
      (ap (λ (env : Env). value_in env cell) puts.values)

  there1 : AreCellsThere x d.rights w1.world.memory (at_work a w1)
  there1 = record {
    values = λ v k kept. stays k.cell k.ty (kept_is_cell x is v k kept) (there.values v k kept);
    distances = λ v cell told. stays cell (int 64) (distance_of x is v cell told) (there.distances v cell told);
  }

  given1 : Each (IsNameGiven x homes w1) (given_params (edged x).params args)
  given1 =
      each_turns (IsNameGiven x homes w) (IsNameGiven x homes w1)
      (λ q g. record {
        stands = subst (λ (env : Env). IsValue homes q.1 (value_in env q.0)) (sym puts.values) g.stands;
        storable = g.storable;
        no_root = g.no_root;
        no_distance = g.no_distance;
      }) (given_params (edged x).params args) given

  params : AreNamesStored x homes d w1 a (entry_values (edged x) args) n (stored_params (plan x) (edged x).params)
  params = params_stored x is homes d law a w1 args n own long given1 there1

  abbrev z : Work
  z = params.work

  abbrev Now : EarlySlot → Value → Type 0
  Now s v = v ≡ value_in w.values s.temporary

  put_there : (s : EarlySlot) → Contains slots s → IsCell d.rights w1.world.memory (at_work a w1) s.cell ptr (Now s)
  put_there s l =
      each_at (λ (u : EarlySlot). IsCell d.rights w1.world.memory (at_work a w1) u.cell ptr (Now u)) slots puts.put s
      l.0 l.1 l.2

  put_stays : (s : EarlySlot) → Contains slots s
      → (h : IsCell d.rights w1.world.memory (at_work a w1) s.cell ptr (Now s))
      → IsCell d.rights z.world.memory (at_work a z) s.cell ptr (Now s)
  put_stays s l h =
      cell_stays d.rights law params.spans w1.world.memory z.world.memory a w1 z s.cell ptr (Now s) params.over.fills h
      (each_turns
      (λ (p : Span). (q : ℕ) × IsCellOf x q × Contains a.slots (record { alloca = q; block = p.block }))
      (λ (p : Span). p.block ≢ h.block)
      (λ p k. other_block a k.0 s.cell p.block h.block own k.2 h.own
      (λ e. let high : length (written x).names ≤ s.cell = (slots_new x s l).1 in
      let lt : k.0 < length (named x).names = k.1.1 in
      let far : length (named x).names ≤ length (written x).names = named_written x in
      omega (arith, high, lt, far, e))) params.spans params.inside)
      (ap (λ (env : Env). value_in env s.cell) params.values)

  wheres : AreWheresRight x d.rights z.world.memory None (at_work a z)
  wheres = record {
    each = λ s l.
        cell_has d.rights z.world.memory (at_work a z) s.cell ptr (Now s) (IsWhere None x (at_work a z) s)
        (λ v e. e ∙ ap (λ (env : Env). value_in env s.temporary) (sym (params.values ∙ puts.values)))
        (put_stays s l (put_there s l));
  }

  pub entry_stored : IsEntryStored x homes d w a args n
  entry_stored = record {
    work = z;
    spans = puts.spans ++ params.spans;
    over = over_joined d (puts_of temporary_of slots) (stored_params (plan x) (edged x).params) n puts.spans
        params.spans w w1 z puts.over params.over;
    values = params.values ∙ puts.values;
    inside = each_joined
        (λ (p : Span). (q : ℕ) × IsEntryName x q × Contains a.slots (record { alloca = q; block = p.block }))
        puts.spans params.spans
        (each_turns
        (λ (p : Span). (q : ℕ) × IsListed q (cells_of slots) × Contains a.slots (record { alloca = q; block = p.block }))
        (λ (p : Span). (q : ℕ) × IsEntryName x q × Contains a.slots (record { alloca = q; block = p.block }))
        (λ p k. (k.0, inr k.1, k.2)) puts.spans puts.inside)
        (each_turns
        (λ (p : Span). (q : ℕ) × IsCellOf x q × Contains a.slots (record { alloca = q; block = p.block }))
        (λ (p : Span). (q : ℕ) × IsEntryName x q × Contains a.slots (record { alloca = q; block = p.block }))
        (λ p k. (k.0, inl k.1, k.2)) params.spans params.inside);
    right = params.right;
    wheres = wheres;
  }
