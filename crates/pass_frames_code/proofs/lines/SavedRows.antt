-- Before a save the values of a row go to their fields one after another.
use Rattle.pass_proofs.specs.flow_solver.Paths.{IsListed}
use Rattle.pass_proofs.proofs.ir_laws.facts.Truth.{is_number}
use Rattle.pass_proofs.proofs.ir_laws.paths.source_rules.Locals.{listed_either, listed_left, listed_right}
use Rattle.pass_proofs.specs.ir_model.declared.instr.Instr.{Instr}
use Rattle.pass_proofs.specs.pass_cells.Kept.{entry}
use Rattle.pass_proofs.specs.pass_cells.Kept.{value_types}
use Rattle.pass_proofs.specs.pass_cells.Links.{bases_of, slots_of}
use Rattle.pass_proofs.specs.pass_cells.Moves.{load_from, saved_one, saved_values}
use Rattle.pass_proofs.specs.pass_cells.declared.plan.KeptValue.{KeptValue}
use Rattle.pass_proofs.specs.pass_fetch.Fetching.{value_bytes}
use Rattle.pass_proofs.specs.pass_frames.Framed.{begin_of}
use Rattle.pass_frames_code.proofs.code.Left.{Far, far_named}
use Rattle.pass_frames_code.proofs.code.Names.{Count, F, First, Kept, keeping, local}
use Rattle.pass_frames_code.proofs.layers.Grown.{grown_append}
use Rattle.pass_frames_code.proofs.led.Steps.{fills_elsewhere}
use Rattle.pass_frames_code.proofs.led.Through.{through_joined, through_turns}
use Rattle.pass_frames_code.proofs.lines.Filled.{over_fewer, over_joined, over_none}
use Rattle.pass_frames_code.proofs.lines.Fillers.{filler_left, saved_code, stored_there}
use Rattle.pass_frames_code.proofs.lines.Results.{same_kept}
use Rattle.pass_frames_code.proofs.lines.Saves.{IsSavedOne, one_saved, other_stays}
use Rattle.pass_frames_code.specs.Code.{addressed}
use Rattle.pass_frames_code.specs.Framings.{IsFraming}
use Rattle.pass_frames_code.specs.Layers.{grown}
use Rattle.pass_frames_code.specs.Led.{RunsThrough}
use Rattle.pass_frames_code.specs.Lines.{AreInBlock, RunsOver, at_work}
use Rattle.pass_frames_code.specs.Places.{Framing, addressing_layer, edged, named, offsets, plan}
use Rattle.pass_frames_code.specs.Related.{Anything, AreCellsRight, IsKeptAs, IsKeptValue}
use Rattle.pass_frames_code.specs.Saves.{AreCellsElsewhere, AreStorable, HoldsField, IsButBlock, IsFieldSpan, MaySave, SavesValues}
use Rattle.pass_proofs.proofs.cells.rules.Plans.{kept_of}
use Rattle.pass_proofs.specs.run_laws.access.Accessed.{Span}
use Rattle.pass_proofs.specs.run_laws.access.Lines.{AreDisjoint, pointer_at}
use Rattle.pass_proofs.specs.run_laws.changed.Changed.{Each}
use Rattle.pass_proofs.specs.run_laws.memory.Pointers.{Home}
use Rattle.pass_proofs.specs.run_laws.memory.Standing.{AreByteRights}
use Rattle.pass_proofs.specs.run_memory.declared.block.MemoryBlock.{MemoryBlock}
use Rattle.pass_proofs.specs.run_memory.declared.pointer.Value.{Value}
use Rattle.pass_proofs.specs.run_source.declared.state.Activation.{Activation}
use Rattle.pass_proofs.specs.run_step.Step.{Context, Work}
use Rattle.pass_proofs.specs.run_step.Values.{Env, value_in}
use Rattle.pass_proofs.specs.run_step.declared.world.World.{World}
use Rattle.std.proofs.Common.{◌≡◌, inl, inr, ⊎_elim, ℕ, ◌+◌, ◌<◌, ◌≤◌, List, [], ◌∷◌, ◌++◌, length, refl, sym, ap, ◌∙◌, subst, arith}
use Rattle.std.specs.Prelude.{None, Option, Some, slice_get, ◌≢◌}

module _ (x : Framing) (is : IsFraming x) (homes : List Home) (c : Context) (law : AreByteRights c.rights) (env : Env)
    (a : Activation) (block start k : ℕ) (elsewhere : AreCellsElsewhere x block a) (storable : AreStorable x env) where
  abbrev AreRight : Work → Type 0
  AreRight w = AreCellsRight x homes c.rights w.world.memory env (at_work a w)

  abbrev HasField : List MemoryBlock → KeptValue → (Value → Type 0) → Type 0
  HasField m j Has = HoldsField x c.rights m block start j Has

  abbrev IsKept : ℕ → KeptValue → Value → Type 0
  IsKept v j u = IsKeptAs homes env v j j.slot u

  abbrev One : Work → (n m v d : ℕ) → KeptValue → Type 0
  One w n m v d j = IsSavedOne x is homes c law env a block start k elsewhere storable w n m v d j

  module _ (whole : List ℕ)
      (apart : (u v : ℕ) (i j : KeptValue) (d e : ℕ) → (one : IsKeptValue x u i) → (other : IsKeptValue x v j)
      → IsListed one.number whole → IsListed other.number whole → u ≢ v
      → slice_get (offsets x) i.field ≡ Some (Some d) → slice_get (offsets x) j.field ≡ Some (Some e)
      → AreDisjoint block (start + d) (value_bytes i.field_ty) block (start + e) (value_bytes j.field_ty)) where
    abbrev Rooms : Work → Type 0
    Rooms w = (v : ℕ) (j : KeptValue) → (kept : IsKeptValue x v j) → IsListed kept.number whole
        → HasField w.world.memory j Anything

    -- the fields of these hold what is kept
    abbrev Fields : Work → List ℕ → Type 0
    Fields w seen = (v : ℕ) (j : KeptValue) → (kept : IsKeptValue x v j) → IsListed kept.number seen
        → HasField w.world.memory j (IsKept v j)

    record MayGoOn (w : Work) (n m : ℕ) (row seen : List ℕ) : Type 0 where
      low : length (named x).names ≤ n
      old : begin_of x.function < n
      room : n + length row ≤ m
      long : m + length row ≤ length w.values
      begun : value_in w.values (begin_of x.function) ≡ pointer_at block start
      right : AreRight w
      rooms : Rooms w
      fields : Fields w seen
      listed : (at : ℕ) → IsListed at row → IsListed at whole
      known : (at : ℕ) → IsListed at seen → IsListed at whole

    record IsSavedAll (w : Work) (n m : ℕ) (line : List Instr) (row all : List ℕ) : Type 0 where
      work : Work
      spans : List Span
      over : RunsOver c line n spans w work
      through : RunsThrough c (IsButBlock block w) line w work
      inside : AreInBlock block spans
      in_fields : Each (IsFieldSpan x block start whole) spans
      between : (u : ℕ) → n + length row ≤ u → u < m → value_in work.values u ≡ value_in w.values u
      right : AreRight work
      fields : Fields work all

    abbrev row_code : ℕ → ℕ → List ℕ → List Instr
    row_code n m row = addressed x k (m, tt) (saved_values (plan x).kept n row)

    anyhow : (m : List MemoryBlock) (j : KeptValue) (Has : Value → Type 0) → HasField m j Has → HasField m j Anything
    anyhow m j Has f = record {
      offset = f.offset;
      told = f.told;
      near = f.near;
      bytes = f.bytes;
      sized = f.sized;
      holds = f.holds;
      has = tt;
    }

    same_value : (u v : ℕ) (i j : KeptValue) → (one : IsKeptValue x u i) → (other : IsKeptValue x v j)
        → one.number ≡ other.number → (u ≡ v) × (i ≡ j)
    same_value u v i j one other e =
        let here : slice_get (Kept x is).values one.number ≡ Some u = (keeping x is).there u one.number one.told in
        let there : slice_get (Kept x is).values other.number ≡ Some v =
        (keeping x is).there v other.number other.told in
        let names : Some u ≡ Some v = sym here ∙ ap (slice_get (Kept x is).values) e ∙ there in
        let values : Some i ≡ Some j = sym one.there ∙ ap (slice_get (plan x).kept) e ∙ other.there in
        (cc, cc)

    -- one more
    module _ (at : ℕ) (row seen : List ℕ) (w : Work) (n m : ℕ) (go : MayGoOn w n m (at ∷ row) seen)
        (more : (seen : List ℕ) (w : Work) (n m : ℕ) → MayGoOn w n m row seen
        → IsSavedAll w n m (row_code n m row) row (row ++ seen)) where
      abbrev Goes : Option KeptValue → Type 0
      Goes o =
          IsSavedAll w n m (addressed x k (m, tt) (saved_one n o ++ saved_values (plan x).kept (n + 1) row)) (at ∷ row)
          (at ∷ (row ++ seen))

      none_goes : slice_get (plan x).kept at ≡ None → Goes None
      none_goes e =
          let low : length (named x).names ≤ n = go.low in
          let old : begin_of x.function < n = go.old in
          let room : n + length (at ∷ row) ≤ m = go.room in
          let long : m + length (at ∷ row) ≤ length w.values = go.long in
          let r = more seen w (n + 1) m (record {
            low = omega (arith, low);
            old = omega (arith, old);
            room = omega (arith, room);
            long = omega (arith, long);
            begun = go.begun;
            right = go.right;
            rooms = go.rooms;
            fields = go.fields;
            listed = λ u l. go.listed u (inr l);
            known = go.known;
          }) in
          record {
            work = r.work;
            spans = r.spans;
            over = over_fewer c (row_code (n + 1) m row) n (n + 1) r.spans w r.work (omega arith) r.over;
            through = r.through;
            inside = r.inside;
            in_fields = r.in_fields;
            between = λ u le lt. r.between u (omega (arith, le)) lt;
            right = r.right;
            fields = λ v j kept l. ⊎_elim
                (λ (same : kept.number ≡ at).
                let t : None ≡ Some j =
                sym e ∙ ap (slice_get (plan x).kept) (sym same) ∙ kept.there in
                absurd (cc))
                (λ l. r.fields v j kept l) l;
          }

      module _ (v : ℕ) (j : KeptValue) (told : entry (plan x).places v ≡ Some at)
          (there : slice_get (plan x).kept at ≡ Some j) where
        abbrev kept : IsKeptValue x v j
        kept = record { number = at; told = told; there = there }

        here : IsListed kept.number whole
        here = go.listed at (inl refl)

        f : HasField w.world.memory j Anything
        f = go.rooms v j kept here

        one : One w n m v f.offset j
        one =
            let room : n + length (at ∷ row) ≤ m = go.room in
            let long : m + length (at ∷ row) ≤ length w.values = go.long in
            one_saved x is homes c law env a block start k elsewhere storable w n m v j kept go.low go.old
            (omega (arith, room)) (omega (arith, long)) go.begun go.right f

        away : (u : ℕ) (i : KeptValue) (Has : Value → Type 0) (other : IsKeptValue x u i)
            → IsListed other.number whole → (u ≡ v → ⊥) → HasField w.world.memory i Has
            → HasField one.work.world.memory i Has
        away u i Has other l d g =
            other_stays x is homes c law env a block start k elsewhere storable w n m v u f.offset j i one Has g
            (apart v u j i f.offset g.offset kept other here l (λ e. d (sym e)) f.told g.told)

        -- what is saved now, under its other names
        same_field : (u : ℕ) (i : KeptValue) (other : IsKeptValue x u i) → u ≡ v
            → HasField one.work.world.memory i (IsKept u i)
        same_field u i other e =
            subst (λ (z : ℕ). HasField one.work.world.memory i (IsKept z i)) (sym e)
            (subst (λ (z : KeptValue). HasField one.work.world.memory z (IsKept v z))
            (same_kept x is v j i kept (subst (λ (z : ℕ). IsKeptValue x z i) e other)) one.field)

        rooms_on : Rooms one.work
        rooms_on u i other l =
            ⊎_elim (λ e. anyhow one.work.world.memory i (IsKept u i) (same_field u i other e))
            (λ d. away u i Anything other l d (go.rooms u i other l)) (is_number u v)

        fields_on : Fields one.work (at ∷ seen)
        fields_on u i other (inl e) = same_field u i other (same_value u v i j other kept e).0
        fields_on u i other (inr l) =
            ⊎_elim (λ e. same_field u i other e)
            (λ d. away u i (IsKept u i) other (go.known other.number l) d (go.fields u i other l)) (is_number u v)

        next : MayGoOn one.work (n + 1) (m + 1) row (at ∷ seen)
        next =
            let low : length (named x).names ≤ n = go.low in
            let old : begin_of x.function < n = go.old in
            let room : n + length (at ∷ row) ≤ m = go.room in
            let long : m + length (at ∷ row) ≤ length w.values = go.long in
            let same : length one.work.values ≡ length w.values = one.over.room in
            record {
              low = omega (arith, low);
              old = omega (arith, old);
              room = omega (arith, room);
              long = omega (arith, long, same);
              begun = one.over.others (begin_of x.function) go.old ∙ go.begun;
              right = one.cells;
              rooms = rooms_on;
              fields = fields_on;
              listed = λ u l. go.listed u (inr l);
              known = λ u l. ⊎_elim (λ (e : u ≡ at). subst (λ (z : ℕ). IsListed z whole) (sym e) here)
                  (λ l. go.known u l) l;
            }

        -- what is but a block from there on is so from the start
        on_from : (u : Work) → IsButBlock block one.work u → IsButBlock block w u
        on_from u but = record {
          world = but.world ∙ ap (λ (z : World). record z { memory = u.world.memory }) one.over.world;
          others = λ e d.
              but.others e d
              ∙ fills_elsewhere c.rights
              (record { block = block; offset = start + f.offset; len = value_bytes j.field_ty } ∷ []) w.world.memory
              one.work.world.memory e one.over.fills ((λ same. d (sym same)), tt);
        }

        some_goes : Goes (Some j)
        some_goes =
            let r = more (at ∷ seen) one.work (n + 1) (m + 1) next in
            let low : length (named x).names ≤ n = go.low in
            let far : Far x is ≤ length (named x).names = far_named x is in
            let code = saved_code x is k n m at f.offset j (omega (arith, low, far)) there (filler_left x is v j kept)
            f.told in
            let line : List Instr = load_from n j.field_ty j.field_cell ∷ stored_there x k n m f.offset j.field_ty in
            let spans : List Span =
            record { block = block; offset = start + f.offset; len = value_bytes j.field_ty } ∷ r.spans in
            record {
              work = r.work;
              spans = spans;
              over = subst (λ (js : List Instr). RunsOver c js n spans w r.work)
                  (sym
                  (grown_append (addressing_layer x k) (m, tt) (saved_one n (Some j))
                  (saved_values (plan x).kept (n + 1) row)
                  ∙ (λ i. code.0 i ++ grown (addressing_layer x k) (code.1 i)
                  (saved_values (plan x).kept (n + 1) row))))
                  (over_joined c line (row_code (n + 1) (m + 1) row) n
                  (record { block = block; offset = start + f.offset; len = value_bytes j.field_ty } ∷ []) r.spans w
                  one.work r.work one.over
                  (over_fewer c (row_code (n + 1) (m + 1) row) n (n + 1) r.spans one.work r.work (omega arith)
                  r.over));
              through = subst (λ (js : List Instr). RunsThrough c (IsButBlock block w) js w r.work)
                  (sym
                  (grown_append (addressing_layer x k) (m, tt) (saved_one n (Some j))
                  (saved_values (plan x).kept (n + 1) row)
                  ∙ (λ i. code.0 i ++ grown (addressing_layer x k) (code.1 i)
                  (saved_values (plan x).kept (n + 1) row))))
                  (through_joined c (IsButBlock block w) line
                  (row_code (n + 1) (m + 1) row) w one.work r.work one.through
                  (through_turns c (IsButBlock block one.work) (IsButBlock block w) on_from
                  (row_code (n + 1) (m + 1) row) one.work r.work r.through));
              inside = (refl, r.inside);
              in_fields = (
                record {
                  value = v;
                  kept = j;
                  is_kept = kept;
                  listed = here;
                  offset = f.offset;
                  told = f.told;
                  is = refl;
                },
                r.in_fields,
              );
              between = λ u le lt.
                  r.between u (omega (arith, le)) (omega (arith, lt))
                  ∙ one.between u (omega (arith, le)) lt;
              right = r.right;
              fields = λ u i other l. r.fields u i other
                  (⊎_elim (λ e. listed_right other.number row (at ∷ seen) (inl e))
                  (λ l. ⊎_elim (λ h. listed_left other.number row (at ∷ seen) h)
                  (λ h. listed_right other.number row (at ∷ seen) (inr h)) (listed_either other.number row seen l))
                  l);
            }

      goes : (o : Option KeptValue) → slice_get (plan x).kept at ≡ o → Goes o
      goes None e = none_goes e
      goes (Some j) e =
          let slots : List (Option ℕ) = slots_of (local x is) (bases_of (edged x)) in
          let y = kept_of (First x is) (Count x is) (value_types (F x is) (Kept x is)) (plan x).cells slots
          (Kept x is).values at j e in
          some_goes y.0 j ((keeping x is).back y.0 at y.1) e

    all_saved : (row seen : List ℕ) (w : Work) (n m : ℕ) → MayGoOn w n m row seen
        → IsSavedAll w n m (row_code n m row) row (row ++ seen)
    all_saved [] seen w n m go = record {
      work = w;
      spans = [];
      over = over_none c n w;
      through = refl;
      inside = tt;
      in_fields = tt;
      between = λ u le lt. refl;
      right = go.right;
      fields = go.fields;
    }
    all_saved (at ∷ row) seen w n m go =
        goes at row seen w n m go (all_saved row) (slice_get (plan x).kept at) refl

-- ---- the line before a save

pub values_saved : (x : Framing) → IsFraming x → (homes : List Home) (c : Context) → AreByteRights c.rights
    → (env : Env) (a : Activation) (w : Work) (block start k n m : ℕ) (row : List ℕ)
    → length (named x).names ≤ n → MaySave x homes c w a env block start n m row
    → SavesValues x homes c w a env block start k n m row
values_saved x is homes c law env a w block start k n m row low may =
    let r = all_saved x is homes c law env a block start k may.elsewhere may.storable row may.fields.apart row [] w n m
    (record {
      low = low;
      old = may.begin_old;
      room = may.room;
      long = may.long;
      begun = may.begun;
      right = may.cells;
      rooms = may.fields.each;
      fields = λ v j kept l. absurd l;
      listed = λ at l. l;
      known = λ at l. absurd l;
    }) in
    record {
      work = r.work;
      spans = r.spans;
      over = r.over;
      through = r.through;
      inside = r.inside;
      in_fields = r.in_fields;
      between = r.between;
      cells = r.right;
      fields = λ v j kept l. r.fields v j kept (listed_left kept.number row [] l);
    }
