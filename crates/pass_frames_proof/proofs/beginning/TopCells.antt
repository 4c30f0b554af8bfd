-- Behind begin the cells of the activation on top are right again.
use Rattle.std.proofs.Common.{◌≡◌, ◌≢◌, ◌+◌, ◌<◌, ◌≤◌, ◌∙◌, Bool, List, None, Option, Some, ap, arith, length, refl, subst, sym, ℕ}
use Rattle.std.specs.List.{Contains}
use Rattle.pass_frames_steps.specs.flow_solver.Paths.{IsListed}
use Rattle.pass_frames_steps.specs.ir_model.Ty.{Ty, int}
use Rattle.pass_frames_steps.specs.ir_parts.Contents.{instr_operands}
use Rattle.pass_frames_steps.specs.pass_cells.Cells.{fetches_of}
use Rattle.pass_frames_steps.specs.pass_cells.Kept.{entry}
use Rattle.pass_frames_steps.specs.pass_cells.declared.plan.KeptValue.{KeptValue}
use Rattle.pass_frames_steps.specs.pass_copies.declared.slot.EarlySlot.{EarlySlot}
use Rattle.pass_frames_steps.specs.pass_fetch.Fetching.{next_after_all}
use Rattle.pass_frames_steps.proofs.allocating.Grown.{listed_in}
use Rattle.pass_frames_steps.proofs.allocating.Steps.{set_length}
use Rattle.pass_frames_proof.proofs.beginning.Copied.{cell_free, early, new_stays}
use Rattle.pass_frames_proof.proofs.beginning.Frame.{C, n1}
use Rattle.pass_frames_proof.proofs.beginning.Given.{Begins}
use Rattle.pass_frames_proof.proofs.beginning.Homes.{hides, homes}
use Rattle.pass_frames_proof.proofs.beginning.Loads.{I, M0, N0, W, is, low_stays, old_cells}
use Rattle.pass_frames_proof.proofs.beginning.Places.{B, N, X, free_apart, held, y0_there}
use Rattle.pass_frames_proof.proofs.beginning.Rest.{IsOther, c'', more, now, same_other}
use Rattle.pass_frames_proof.proofs.beginning.Steps.{begun_top}
use Rattle.pass_frames_steps.proofs.lines.Cells.{contained, other_block}
use Rattle.pass_frames_steps.proofs.lines.Names.{distance_of}
use Rattle.pass_frames_steps.proofs.lines.Results.{kept_is_cell}
use Rattle.pass_frames_steps.proofs.moved.Rest.{rights_on}
use Rattle.pass_frames_steps.proofs.stepping.May.{own_blocks}
use Rattle.pass_frames_steps.proofs.stepping.Names.{cell_is_name, named_written, slots_new}
use Rattle.pass_frames_steps.specs.Beginning.{IsAtBegin}
use Rattle.pass_frames_steps.specs.Lines.{IsCellOf}
use Rattle.pass_frames_steps.specs.Places.{Framing, copies, named, plan, written}
use Rattle.pass_frames_steps.specs.Related.{AreBuiltOf, AreCellsRight, AreWheresRight, Building, IsCell, IsCellName, IsDistanceOf, IsFreeOf, IsKeptValue, instance_in, root_of}
use Rattle.pass_frames_steps.specs.Stepping.{AreGiven}
use Rattle.pass_frames_steps.proofs.pass_proofs.fetch.rules.Puts.{fetch_rises}
use Rattle.pass_frames_steps.specs.pass_renewed_proof.Renewed.{RenewedGiven}
use Rattle.pass_frames_steps.specs.run_framed.Framed.{frame_rights}
use Rattle.pass_frames_steps.proofs.run_laws.transfer.Sets.{set_elsewhere}
use Rattle.pass_frames_steps.specs.run_laws.access.Lines.{Holds}
use Rattle.pass_frames_steps.specs.run_laws.memory.Pointers.{Home, IsValue}
use Rattle.pass_frames_steps.specs.run_memory.Memory.{Rights}
use Rattle.pass_frames_steps.specs.run_memory.declared.block.Byte.{Byte}
use Rattle.pass_frames_steps.specs.run_memory.declared.block.MemoryBlock.{MemoryBlock}
use Rattle.pass_frames_steps.specs.run_memory.declared.pointer.Value.{Value}
use Rattle.pass_frames_steps.specs.run_source.State.{address_in}
use Rattle.pass_frames_steps.specs.run_source.declared.state.Activation.{Activation}
use Rattle.pass_frames_steps.specs.run_source.declared.state.Instance.{Instance}
use Rattle.pass_frames_steps.specs.run_source.declared.state.State.{State}
use Rattle.pass_frames_steps.specs.run_step.Values.{Env, pointer_to, value_in, with_result}
use Rattle.pass_frames_steps.specs.run_step.declared.world.Slot.{Slot}

-- ---- values

pub result_elsewhere : (env : Env) (result : Option ℕ) (v : ℕ) (u : Value) → (result ≡ Some v → ⊥)
    → value_in (with_result env result u) v ≡ value_in env v
result_elsewhere env None v u ne = refl
result_elsewhere env (Some name) v u ne = set_elsewhere env name v u (λ e. ne (ap Some e))

pub result_length : (env : Env) (result : Option ℕ) (u : Value) → length (with_result env result u) ≡ length env
result_length env None u = refl
result_length env (Some name) u = set_length env name (Some u)

module _ (facts : Begins) where
  abbrev b : Building
  b = facts.b

  abbrev g : RenewedGiven
  g = facts.g

  abbrev s : State
  s = facts.s

  abbrev t : State
  t = facts.t

  abbrev r : AreBuiltOf b s t
  r = facts.r

  abbrev given : AreGiven b g
  given = facts.given

  abbrev block : ℕ
  block = facts.block

  abbrev h : IsAtBegin b g s facts.result facts.must_tail facts.ty facts.id facts.typed facts.memory block
  h = facts.h

  abbrev x : Framing
  x = X facts

  abbrev k : ℕ
  k = B facts

  abbrev P0 : Rights
  P0 = frame_rights b.given t.instances

  abbrev Q0 : Rights
  Q0 = frame_rights b.given (now facts)

  abbrev n0 : List MemoryBlock
  n0 = n1 facts

  abbrev homes' : List Home
  homes' = homes facts

  abbrev hides' : ℕ → Bool
  hides' = hides facts

  abbrev a' : Activation
  a' = begun_top g.given s facts.result block

  abbrev c1 : Activation
  c1 = c'' facts

  abbrev env : Env
  env = with_result s.top.values facts.result (pointer_to block)

  -- ---- values

  pub rises : N0 facts ≤ M0 facts
  rises =
      let few = h.order.loads in
      let up : N0 facts ≤ next_after_all (fetches_of (plan x)) (N0 facts) (instr_operands (I facts)) =
      fetch_rises (fetches_of (plan x)) (N0 facts) (instr_operands (I facts)) in
      let high = h.order.addresses in
      omega (arith, few, up, high)

  -- other names have what they had
  pub other_source : (v : ℕ) → (facts.result ≡ Some v → ⊥) → value_in env v ≡ value_in s.top.values v
  other_source v ne = result_elsewhere s.top.values facts.result v (pointer_to block) ne

  pub other_target : (v : ℕ) → v < N0 facts → (facts.result ≡ Some v → ⊥)
      → value_in c1.values v ≡ value_in t.top.values v
  other_target v lt ne =
      (C facts).over.others v (let up = rises in omega (arith, lt, up))
      ∙ result_elsewhere (W facts).values facts.result v (pointer_to k) ne ∙ low_stays facts v lt

  -- and so have temporaries and cells of addresses
  pub new_target : (e : EarlySlot) → Contains (copies x).slots e
      → (value_in c1.values e.cell ≡ value_in t.top.values e.cell)
      × (value_in c1.values e.temporary ≡ value_in t.top.values e.temporary)
  new_target e co =
      let z = h.order.slots e co in (
        (C facts).over.others e.cell z.1.1 ∙ new_stays facts e.cell z.0.1,
        (C facts).over.others e.temporary z.1.0 ∙ new_stays facts e.temporary z.0.0,
      )

  pub not_kept : (v : ℕ) (e : KeptValue) → IsKeptValue x v e → facts.result ≡ Some v → ⊥
  not_kept v e kept same = let no : None ≡ Some kept.number = sym (h.named v same).1 ∙ kept.told in cc

  not_celled : (v cell : ℕ) → entry (plan x).cells v ≡ Some cell → facts.result ≡ Some v → ⊥
  not_celled v cell e same = let no : None ≡ Some cell = sym (h.named v same).0.no_distance ∙ e in cc

  not_root : (v slot : ℕ) → root_of x v ≡ Some slot → facts.result ≡ Some slot → ⊥
  not_root v slot root same = (h.named slot same).0.name.no_root v slot root refl

  not_cell : (cell : ℕ) → IsCellName x cell → facts.result ≡ Some cell → ⊥
  not_cell cell name same =
      let high = name.new in
      let low = (h.named cell same).0.name.low in
      omega (arith, high, low)

  -- ---- cells

  pub free_top : (slot : Slot) → Contains t.top.slots slot → IsCellName x slot.alloca
      → IsFreeOf r.homes r.hides s.world.memory slot.block
  free_top slot own' name = cell_free facts slot own' name

  kept_top : (slot : Slot) → Contains t.top.slots slot → IsCellName x slot.alloca → (o most : ℕ) (bytes : List Byte)
      → Holds P0 t.world.memory slot.block o most bytes → Holds Q0 (N facts) slot.block o most bytes
  kept_top slot own' name o most bytes =
      held facts slot.block (free_apart facts slot.block (free_top slot own' name)) o most bytes

  right_old : AreCellsRight x homes' Q0 (N facts) s.top.values t.top
  right_old =
      rights_on P0 Q0 t.world.memory (N facts) r.homes homes' (more facts) x (is facts) t.top kept_top s.top.values
      (old_cells facts).0

  -- cells of values are none of addresses, which alone are filled behind begin
  cell_apart : (cell : ℕ) → IsCellOf x cell → (e : EarlySlot) → IsListed e (early facts) → e.cell ≢ cell
  cell_apart cell of e l same =
      let lt : cell < length (named x).names = of.1 in
      let high : length (written x).names ≤ e.cell = (slots_new x e (listed_in (early facts) e l)).1 in
      let less : length (named x).names ≤ length (written x).names = named_written x in
      omega (arith, lt, high, less, same)

  cell_now : (cell : ℕ) (ty : Ty) (Has Then : Value → Type 0) → ((u : Value) → Has u → Then u) → IsCellOf x cell
      → IsCell Q0 (N facts) t.top cell ty Has → IsCell Q0 n0 c1 cell ty Then
  cell_now cell ty Has Then turns of e = record {
    block = e.block;
    address =
        other_target cell (let lt = of.1 in let low = h.order.low in omega (arith, lt, low))
        (not_cell cell (cell_is_name x cell of)) ∙ e.address;
    own = e.own;
    bytes = e.bytes;
    sized = e.sized;
    holds = record {
      block = e.holds.block;
      there = same_other facts e.block other ∙ e.holds.there;
      live = e.holds.live;
      writable = e.holds.writable;
      whole = e.holds.whole;
      within = e.holds.within;
      holds = e.holds.holds;
      unclosed = e.holds.unclosed;
      aligned = e.holds.aligned;
    };
    has = turns _ e.has;
  }
    where
      other : IsOther facts e.block
      other = (
        free_apart facts e.block
            (free_top (record { alloca = cell; block = e.block }) e.own (cell_is_name x cell of)),
        λ f l co. other_block t.top f.cell cell e.block e.block (own_blocks t r.once) co e.own (cell_apart cell of f l)
            refl,
      )

  pub right_now : AreCellsRight x homes' Q0 n0 env c1
  right_now = record {
    values = λ v kv e.
        cell_now kv.cell kv.ty (IsValue homes' (value_in s.top.values v)) (IsValue homes' (value_in env v))
        (λ u f. subst (λ (a : Value). IsValue homes' a u) (sym (other_source v (not_kept v kv e))) f)
        (kept_is_cell x (is facts) v kv e) (right_old.values v kv e);
    distances = λ v cell slot e root.
        cell_now cell (int 64) (IsDistanceOf (value_in s.top.values slot) (value_in s.top.values v))
        (IsDistanceOf (value_in env slot) (value_in env v))
        (λ u f. subst (λ (p : Value × Value). IsDistanceOf p.0 p.1 u)
        (λ j. (sym (other_source slot (not_root v slot root)) j, sym (other_source v (not_celled v cell e)) j)) f)
        (distance_of x (is facts) v cell e) (right_old.distances v cell slot e root);
  }

  pub wheres_now : AreWheresRight x Q0 n0 (instance_in (now facts) (Some (length t.instances))) c1
  wheres_now =
      subst (λ (o : Option Instance). AreWheresRight x Q0 n0 o c1) (sym (y0_there facts)) (record {
        each = λ e co.
            let z = (C facts).each e (contained (early facts) e co) in
            let f = z.copied.cell in
            record {
              block = f.block;
              address = f.address;
              own = f.own;
              bytes = f.bytes;
              sized = f.sized;
              holds = f.holds;
              has = (
                z.place.place.position,
                z.place.place.placed,
                f.has ∙ ap (λ (o : ℕ). address_in k (0 + o)) z.place.place.same,
              );
            };
      })
