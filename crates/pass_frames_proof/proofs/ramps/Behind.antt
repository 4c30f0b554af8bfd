-- Behind the allocas of a ramp cells are there, and stores go to new blocks alone.
use Rattle.std.proofs.Common.{◌≡◌, ◌<◌, ◌∙◌, ◌∷◌, [], List, None, Option, Some, ap, arith, false, inl, inr, length, refl, replicate, subst, sym, true, ℕ}
use Rattle.std.proofs.lemmas.List.{length-replicate}
use Rattle.std.specs.List.{Contains}
use Rattle.std.specs.Prelude.{if◌then◌else◌, slice_get}
use Rattle.pass_frames_steps.specs.flow_solver.Paths.{IsListed}
use Rattle.pass_frames_steps.proofs.ir_laws.facts.Members.{each_joined, each_turns}
use Rattle.pass_frames_steps.specs.ir_laws.paths.woven_rules.Pairs.{AreDifferent}
use Rattle.pass_frames_steps.specs.ir_model.Layout.{size_of}
use Rattle.pass_frames_steps.specs.ir_model.Ty.{Ty, int, ptr}
use Rattle.pass_frames_steps.specs.ir_model.declared.instr.Instr.{Instr}
use Rattle.pass_frames_steps.specs.ir_model.declared.module.Function.{Function}
use Rattle.pass_frames_steps.specs.ir_model.declared.module.Module.{Module}
use Rattle.pass_frames_steps.specs.ir_model.declared.module.Param.{Param}
use Rattle.pass_frames_steps.specs.ir_model.declared.operand.Operand.{Operand}
use Rattle.pass_frames_steps.specs.pass_cells.Cells.{fetched_function}
use Rattle.pass_frames_steps.specs.pass_cells.Kept.{entry}
use Rattle.pass_frames_steps.specs.pass_cells.Written.{stored, stored_at, stored_one, stored_params}
use Rattle.pass_frames_steps.specs.pass_cells.declared.plan.KeptValue.{KeptValue}
use Rattle.pass_frames_steps.specs.pass_copies.declared.slot.EarlySlot.{EarlySlot}
use Rattle.pass_frames_steps.specs.pass_fetch.Fetching.{value_bytes}
use Rattle.pass_frames_steps.specs.pass_intrinsics.Lowered.{pointer_arg}
use Rattle.pass_frames_steps.proofs.code.Framed.{framed_is}
use Rattle.pass_frames_steps.proofs.code.Names.{has_cells}
use Rattle.pass_frames_proof.proofs.entered.Allocas.{each_there}
use Rattle.pass_frames_proof.proofs.entered.Cells.{cell_made}
use Rattle.pass_frames_proof.proofs.from_edges.Front.{listed_contains}
use Rattle.pass_frames_steps.proofs.lines.Cells.{contained}
use Rattle.pass_frames_steps.proofs.lines.Names.{distance_of}
use Rattle.pass_frames_steps.proofs.lines.Results.{kept_is_cell}
use Rattle.pass_frames_steps.specs.Entered.{IsAlloca, IsEntryName, IsNewStore, IsThere, Made, alloca_block, made_all, names_in, temporary_of}
use Rattle.pass_frames_steps.specs.Entering.{front_allocas}
use Rattle.pass_frames_steps.specs.Entry.{MayPut, cells_of, puts_of}
use Rattle.pass_frames_steps.specs.Framings.{IsFraming}
use Rattle.pass_frames_steps.specs.Places.{Framing, copies, edged, framed, plan}
use Rattle.pass_frames_steps.specs.Ramps.{HasAllocasInFront, entry_stores}
use Rattle.pass_frames_steps.specs.Related.{Anything, AreCellsThere, Building, IsCell, IsKeptValue}
use Rattle.pass_frames_steps.specs.Saving.{HasLowAllocas}
use Rattle.pass_frames_steps.proofs.rule_laws.rules.counted.Types.{is_cell_type, width_cases}
use Rattle.pass_frames_steps.specs.run_framed.Framed.{frame_rights}
use Rattle.pass_frames_steps.specs.run_laws.changed.Changed.{Each}
use Rattle.pass_frames_steps.specs.run_memory.Pointers.{offset_of}
use Rattle.pass_frames_steps.specs.run_memory.declared.block.Byte.{Byte}
use Rattle.pass_frames_steps.specs.run_memory.declared.block.Kind.{Kind}
use Rattle.pass_frames_steps.specs.run_memory.declared.block.Life.{Life}
use Rattle.pass_frames_steps.specs.run_memory.declared.block.MemoryBlock.{MemoryBlock}
use Rattle.pass_frames_steps.specs.run_memory.declared.pointer.Pointer.{Pointer}
use Rattle.pass_frames_steps.specs.run_source.declared.state.Activation.{Activation}
use Rattle.pass_frames_steps.specs.run_source.declared.state.Instance.{Instance}
use Rattle.pass_frames_steps.specs.run_step.Step.{has_markers}
use Rattle.pass_frames_steps.specs.run_step.Values.{Env, value_in}

-- ---- the framed form is a coroutine, with the parameters that it had

pub framed_coroutine : (x : Framing) → (framed x).coroutine ≡ x.function.coroutine
unfolding fetched_function
framed_coroutine x = ap (λ (f : Function). f.coroutine) (framed_is x)

pub framed_params : (x : Framing) → (framed x).params ≡ (edged x).params
unfolding fetched_function
framed_params x = ap (λ (f : Function). f.params) (framed_is x)

-- ---- the allocas in front

-- they have names of their own, which no parameter has, and alignments that there are
pub record AreEntryAllocas (m : Module) (x : Framing) : Type 0 where
  pub allocas : Each IsAlloca (front_allocas x)
  pub once : AreDifferent (names_in (front_allocas x) allocas)
  pub low : Each (λ (j : Instr). (a : IsAlloca j) → a.name < length (framed x).names) (front_allocas x)
  pub unset : Each (λ (j : Instr). (a : IsAlloca j) (p : Param) → IsListed p (edged x).params → p.name ≡ a.name → ⊥)
      (front_allocas x)
  pub own : HasLowAllocas x
  pub unmarked : (cell : ℕ) → IsEntryName x cell → has_markers (framed x) cell ≡ false
  pub same : (ty : Ty) → size_of m ty ≡ size_of x.code ty

-- ---- cells

-- a cell's type has a size, which no structure changes
pub cell_size : (m : Module) (ty : Ty) → is_cell_type ty ≡ true → size_of m ty ≡ value_bytes ty
cell_size m (int w) h = width_cases (λ n. size_of m (int n) ≡ value_bytes (int n)) refl refl refl refl refl w h
cell_size m ptr h = refl
cell_size m _ h = absurd (cc)

pub cell_in : (ss : List EarlySlot) (s : EarlySlot) → IsListed s ss → IsListed s.cell (cells_of ss)
cell_in [] s l = absurd l
cell_in (u ∷ ss) s (inl e) = inl (ap (λ (z : EarlySlot). z.cell) e)
cell_in (u ∷ ss) s (inr l) = inr (cell_in ss s l)

-- ---- behind all allocas

module _ (b : Building) (x : Framing) (is : IsFraming x) (h : AreEntryAllocas b.framed_code x)
    (f : HasAllocasInFront x) (ys : List Instance)
    (memory : List MemoryBlock) (env : Env) (room : length env ≡ length (framed x).names)
    (old : (i : ℕ) (y : Instance) → slice_get ys i ≡ Some y → y.block < length memory) where
  abbrev pub first : Made
  first = record { memory = memory; values = env; slots = [] }

  abbrev pub made : Made
  made = made_all b.framed_code (framed x) first (front_allocas x) h.allocas

  pub low : Each (λ (j : Instr). (a : IsAlloca j) → a.name < length env) (front_allocas x)
  low =
      each_turns (λ (j : Instr). (a : IsAlloca j) → a.name < length (framed x).names)
      (λ (j : Instr). (a : IsAlloca j) → a.name < length env)
      (λ j lt a. subst (λ (n : ℕ). a.name < n) (sym room) (lt a)) (front_allocas x) h.low

  pub there : (name align : ℕ) (ty : Ty) → IsListed (Instr.Alloca name ty align) (front_allocas x)
      → IsThere b.framed_code (framed x) (length memory) made name ty align
  there name align ty l =
      each_there b.framed_code (framed x) (length memory) first (front_allocas x) h.allocas h.once low (omega arith)
      name ty align l

  kept_there : (v : ℕ) (k : KeptValue) → IsKeptValue x v k
      → IsThere b.framed_code (framed x) (length memory) made k.cell k.ty (value_bytes k.ty)
  kept_there v k kept = there k.cell (value_bytes k.ty) k.ty (f.values v k kept)

  where_there : (s : EarlySlot) → Contains (copies x).slots s
      → IsThere b.framed_code (framed x) (length memory) made s.cell ptr (value_bytes ptr)
  where_there s l = there s.cell (value_bytes ptr) ptr (f.wheres s l)

  module _ (a : Activation) (values : a.values ≡ made.values) (slots : a.slots ≡ made.slots) where
    cell_is : (cell : ℕ) (ty : Ty) → is_cell_type ty ≡ true → IsEntryName x cell
        → IsListed (Instr.Alloca cell ty (value_bytes ty)) (front_allocas x)
        → IsCell (frame_rights b.given ys) made.memory a cell ty Anything
    cell_is cell ty typed name l =
        cell_made b.given ys b.framed_code (framed x) (length memory) made a cell ty old
        (there cell (value_bytes ty) ty l) (cell_size b.framed_code ty typed) (h.unmarked cell name) values slots

    pub cells_there : AreCellsThere x (frame_rights b.given ys) made.memory a
    cells_there = record {
      values = λ v k kept.
          cell_is k.cell k.ty (has_cells x is kept.number k kept.there).ty (inl (kept_is_cell x is v k kept))
          (f.values v k kept);
      distances = λ v cell told.
          cell_is cell (int 64) refl (inl (distance_of x is v cell told)) (f.distances v cell told);
    }

    puts_may : (n : ℕ) → ((s : EarlySlot) → Contains (copies x).slots s → s.cell < n) → (ss : List EarlySlot)
        → ((s : EarlySlot) → IsListed s ss → Contains (copies x).slots s)
        → Each (MayPut (frame_rights b.given ys) made.memory a temporary_of n) ss
    puts_may n high [] in_all = tt
    puts_may n high (s ∷ ss) in_all =
        let l = in_all s (inl refl) in
        let z = there s.temporary s.align s.ty (f.temporaries s l) in (
          record {
            cell = cell_is s.cell ptr refl (inr (cell_in (copies x).slots s (contained (copies x).slots s l)))
                (f.wheres s l);
            low = high s l;
            pointer = Pointer.At z.block (offset_of 0);
            leads = ap (λ (e : Env). value_in e s.temporary) values ∙ z.address;
          },
          puts_may n high ss (λ u k. in_all u (inr k)),
        )

    pub all_may_put : (n : ℕ) → ((s : EarlySlot) → Contains (copies x).slots s → s.cell < n)
        → Each (MayPut (frame_rights b.given ys) made.memory a temporary_of n) (copies x).slots
    all_may_put n high = puts_may n high (copies x).slots (λ s l. listed_contains (copies x).slots s l)

  -- ---- stores go to new blocks

  abbrev IsNew : Instr → Type 0
  IsNew = IsNewStore made.values (length memory)

  puts_new : (ss : List EarlySlot) → ((s : EarlySlot) → IsListed s ss → Contains (copies x).slots s)
      → Each IsNew (puts_of temporary_of ss)
  puts_new [] in_all = tt
  puts_new (s ∷ ss) in_all =
      let z = where_there s (in_all s (inl refl)) in (
        record {
          arg = pointer_arg (Operand.Local s.temporary);
          name = s.cell;
          align = 8;
          is = refl;
          block = z.block;
          leads = z.address;
          new = z.new;
        },
        puts_new ss (λ u k. in_all u (inr k)),
      )

  stored_new : (v : ℕ) → Each IsNew (stored (plan x) v)
  stored_new v = on (entry (plan x).places v) refl
    where
      one : (number : ℕ) → entry (plan x).places v ≡ Some number → (o : Option KeptValue)
          → slice_get (plan x).kept number ≡ o → Each IsNew (stored_one v o)
      one number told None e = tt
      one number told (Some k) e =
          let z = kept_there v k (record { number = number; told = told; there = e }) in (
            record {
              arg = record { ty = k.ty; value = Operand.Local v };
              name = k.cell;
              align = value_bytes k.ty;
              is = refl;
              block = z.block;
              leads = z.address;
              new = z.new;
            },
            tt,
          )

      on : (o : Option ℕ) → entry (plan x).places v ≡ o → Each IsNew (stored_at (plan x).kept v o)
      on None e = tt
      on (Some number) e = one number e (slice_get (plan x).kept number) refl

  params_new : (ps : List Param) → Each IsNew (stored_params (plan x) ps)
  params_new [] = tt
  params_new (p ∷ ps) =
      each_joined IsNew (stored (plan x) p.name) (stored_params (plan x) ps) (stored_new p.name) (params_new ps)

  pub stores_new : Each IsNew (entry_stores x)
  stores_new =
      each_joined IsNew (puts_of temporary_of (copies x).slots) (stored_params (plan x) (edged x).params)
      (puts_new (copies x).slots (λ s l. listed_contains (copies x).slots s l)) (params_new (edged x).params)

  -- ---- the block of an alloca of the coroutine's, as its type says

  pub block_ahead : x.function.coroutine ≡ true → (name align : ℕ) (ty : Ty)
      → ◌≡◌ {A = Option MemoryBlock} (Some (alloca_block b.framed_code (framed x) name ty align)) (Some (record {
        size = size_of x.code ty;
        align = align;
        kind = Kind.Slot;
        life = if has_markers (framed x) name then Life.Ended else Life.Live;
        owned = None;
        bytes = replicate (size_of x.code ty) Byte.Undefined;
      }))
  block_ahead is name align ty = λ i. Some (record {
    size = h.same ty i;
    align = align;
    kind = if (framed_coroutine x ∙ is) i then Kind.Slot else Kind.Stack;
    life = if has_markers (framed x) name then Life.Ended else Life.Live;
    owned = None;
    bytes = replicate (h.same ty i) Byte.Undefined;
  })

  pub bytes_ahead : (ty : Ty) → length (replicate (size_of x.code ty) Byte.Undefined) ≡ size_of x.code ty
  bytes_ahead ty = length-replicate (size_of x.code ty) Byte.Undefined
