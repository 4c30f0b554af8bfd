-- In front of a block on a resume or destroy edge all values that cross come back into their cells.
use Rattle.std.proofs.Common.{◌≡◌, inl, inr, ⊎_elim, ℕ, ◌+◌, ◌*◌, ◌<◌, ◌≤◌, List, [], ◌∷◌, ◌++◌, length, refl, sym, ap, ◌∙◌, subst, arith}
use Rattle.std.specs.List.{Contains}
use Rattle.std.specs.Prelude.{None, Option, Some, slice_get}
use Rattle.pass_proofs.specs.flow_solver.Paths.{IsListed}
use Rattle.pass_proofs.proofs.ir_laws.facts.Members.{each_joined, each_turns}
use Rattle.pass_proofs.proofs.ir_laws.facts.Truth.{is_number}
use Rattle.pass_proofs.proofs.ir_laws.paths.source_rules.Locals.{listed_either, listed_left, listed_right}
use Rattle.pass_proofs.specs.ir_model.Ty.{int, ptr}
use Rattle.pass_proofs.specs.ir_model.declared.instr.Instr.{Instr}
use Rattle.pass_proofs.specs.pass_cells.Kept.{entry, value_types}
use Rattle.pass_proofs.specs.pass_cells.Links.{bases_of, slots_of}
use Rattle.pass_proofs.specs.pass_cells.Moves.{again_one, again_values}
use Rattle.pass_proofs.specs.pass_cells.declared.plan.KeptValue.{KeptValue}
use Rattle.pass_proofs.specs.pass_frames.Framed.{begin_of}
use Rattle.pass_frames_code.proofs.agains.Lines.{A, again_code, root_unfetched}
use Rattle.pass_frames_code.proofs.agains.Values.{AreThere, HasField, IsAgainOne, IsOneOf, IsRight, field_on, is_cell, kept_root, line_of, one_again, right_here, right_on, there_on}
use Rattle.pass_frames_code.proofs.code.Left.{Far, far_named}
use Rattle.pass_frames_code.proofs.code.Names.{Count, F, First, Kept, keeping, local}
use Rattle.pass_frames_code.proofs.layers.Grown.{grown_append}
use Rattle.pass_frames_code.proofs.lines.Cells.{cell_has}
use Rattle.pass_frames_code.proofs.lines.Filled.{over_fewer, over_joined, over_none}
use Rattle.pass_frames_code.proofs.lines.Fillers.{filler_left}
use Rattle.pass_frames_code.specs.Agains.{LoadsValues, MayLoadAgain}
use Rattle.pass_frames_code.specs.Code.{addressed}
use Rattle.pass_frames_code.specs.Framings.{IsFraming}
use Rattle.pass_frames_code.specs.Layers.{grown}
use Rattle.pass_frames_code.specs.Lines.{AreInCells, HasOwnBlocks, RunsOver, at_work}
use Rattle.pass_frames_code.specs.Places.{Framing, edged, named, plan}
use Rattle.pass_frames_code.specs.Related.{Anything, IsDistanceOf, IsKeptValue}
use Rattle.pass_frames_code.specs.Saves.{AreCellsElsewhere, AreStorable}
use Rattle.pass_proofs.proofs.cells.rules.Plans.{kept_of}
use Rattle.pass_proofs.specs.run_laws.access.Accessed.{Span}
use Rattle.pass_proofs.specs.run_laws.access.Lines.{pointer_at}
use Rattle.pass_proofs.specs.run_laws.memory.Pointers.{Home, IsValue}
use Rattle.pass_proofs.specs.run_laws.memory.Standing.{AreByteRights}
use Rattle.pass_proofs.specs.run_memory.declared.pointer.Value.{Value}
use Rattle.pass_proofs.specs.run_source.declared.state.Activation.{Activation}
use Rattle.pass_proofs.specs.run_step.Step.{Context, Work}
use Rattle.pass_proofs.specs.run_step.Values.{Env, value_in}

module _ (x : Framing) (is : IsFraming x) (homes : List Home) (c : Context) (law : AreByteRights c.rights) (env : Env)
    (a : Activation) (own : HasOwnBlocks a) (block start : ℕ) (elsewhere : AreCellsElsewhere x block a)
    (storable : AreStorable x env) where
  abbrev IsThere : Work → Type 0
  IsThere w = AreThere x is homes c law env a own block start elsewhere storable w

  abbrev IsHeld : Work → ℕ → KeptValue → Type 0
  IsHeld w v j = HasField x is homes c law env a own block start elsewhere storable w v j

  abbrev IsHere : Work → ℕ → KeptValue → Type 0
  IsHere w v j = IsRight x is homes c law env a own block start elsewhere storable w v j

  -- ---- a row

  module _ (k : ℕ) (addresses : (v slot : ℕ) (j : KeptValue) → IsKeptValue x v j → j.slot ≡ Some slot
      → j.ty ≡ ptr) where
    record MayGoOn (w : Work) (n m : ℕ) (row seen : List ℕ) : Type 0 where
      low : length (named x).names ≤ n
      old : begin_of x.function < n
      room : n + 2 * length row ≤ m
      long : m + length row ≤ length w.values
      begun : value_in w.values (begin_of x.function) ≡ pointer_at block start
      there : IsThere w
      slots : (v slot : ℕ) (j : KeptValue) → IsKeptValue x v j → j.slot ≡ Some slot
          → (slot < n) × IsValue homes (value_in env slot) (value_in w.values slot)
      fields : (v : ℕ) (j : KeptValue) → (kept : IsKeptValue x v j) → IsListed kept.number row → IsHeld w v j
      right : (v : ℕ) (j : KeptValue) → (kept : IsKeptValue x v j) → IsListed kept.number seen → IsHere w v j

    record IsAgainAll (w : Work) (n : ℕ) (line : List Instr) (all : List ℕ) : Type 0 where
      work : Work
      spans : List Span
      over : RunsOver c line n spans w work
      inside : AreInCells x a spans
      there : IsThere work
      right : (v : ℕ) (j : KeptValue) → (kept : IsKeptValue x v j) → IsListed kept.number all → IsHere work v j

    abbrev row_code : ℕ → ℕ → List ℕ → List Instr
    row_code n m row = addressed x k (m, tt) (again_values (plan x).kept n row)

    -- one more
    module _ (at : ℕ) (row seen : List ℕ) (w : Work) (n m : ℕ) (go : MayGoOn w n m (at ∷ row) seen)
        (more : (seen : List ℕ) (w : Work) (n m : ℕ) → MayGoOn w n m row seen
        → IsAgainAll w n (row_code n m row) (row ++ seen)) where
      abbrev Goes : Option KeptValue → Type 0
      Goes o =
          IsAgainAll w n (addressed x k (m, tt) (again_one n o ++ again_values (plan x).kept (n + 2) row))
          (at ∷ (row ++ seen))

      none_goes : slice_get (plan x).kept at ≡ None → Goes None
      none_goes e =
          let low : length (named x).names ≤ n = go.low in
          let old : begin_of x.function < n = go.old in
          let room : n + 2 * length (at ∷ row) ≤ m = go.room in
          let long : m + length (at ∷ row) ≤ length w.values = go.long in
          let r = more seen w (n + 2) m (record {
            low = omega (arith, low);
            old = omega (arith, old);
            room = omega (arith, room);
            long = omega (arith, long);
            begun = go.begun;
            there = go.there;
            slots = λ v slot j kept told.
                let s = go.slots v slot j kept told in
                let lt : slot < n = s.0 in (omega (arith, lt), s.1);
            fields = λ v j kept l. go.fields v j kept (inr l);
            right = go.right;
          }) in
          record {
            work = r.work;
            spans = r.spans;
            over = over_fewer c (row_code (n + 2) m row) n (n + 2) r.spans w r.work (omega arith) r.over;
            inside = r.inside;
            there = r.there;
            right = λ v j kept l. ⊎_elim
                (λ (same : kept.number ≡ at).
                let t : None ≡ Some j =
                sym e ∙ ap (slice_get (plan x).kept) (sym same) ∙ kept.there in
                absurd (cc))
                (λ l. r.right v j kept l) l;
          }

      module _ (v : ℕ) (j : KeptValue) (told : entry (plan x).places v ≡ Some at)
          (there : slice_get (plan x).kept at ≡ Some j) where
        abbrev kept : IsKeptValue x v j
        kept = record { number = at; told = told; there = there }

        f : IsHeld w v j
        f = go.fields v j kept (inl refl)

        abbrev line : List Instr
        line = line_of x is homes c law env a own block start elsewhere storable n m f.offset j

        one : IsAgainOne x is homes c law env a own block start elsewhere storable w n v j line
        one =
            let room : n + 2 * length (at ∷ row) ≤ m = go.room in
            let long : m + length (at ∷ row) ≤ length w.values = go.long in
            one_again x is homes c law env a own block start elsewhere storable w n m v go.low go.old (omega
            (arith, room)) (omega (arith, long)) go.begun go.there j kept f
            (λ slot e. go.slots v slot j kept e) (λ slot e. addresses v slot j kept e)

        same_name : (u : ℕ) (i : KeptValue) (other : IsKeptValue x u i) → other.number ≡ at → u ≡ v
        same_name u i other e =
            let here : slice_get (Kept x is).values other.number ≡ Some u =
            (keeping x is).there u other.number other.told in
            let last : slice_get (Kept x is).values at ≡ Some v = (keeping x is).there v at told in
            let names : Some u ≡ Some v = sym here ∙ ap (slice_get (Kept x is).values) e ∙ last in
            cc

        right_next : (u : ℕ) (i : KeptValue) → (other : IsKeptValue x u i) → IsListed other.number (at ∷ seen)
            → IsHere one.work u i
        right_next u i other (inl e) = right_here x is homes c law env a own block start elsewhere storable w n v j
            line kept go.low one u i other (same_name u i other e)
        right_next u i other (inr l) =
            ⊎_elim (λ e. right_here x is homes c law env a own block start elsewhere storable w n v j line kept
            go.low one u i other e)
            (λ d. right_on x is homes c law env a own block start elsewhere storable w n v j line kept go.low one u
            i other d (go.right u i other l)) (is_number u v)

        next : MayGoOn one.work (n + 2) (m + 1) row (at ∷ seen)
        next =
            let low : length (named x).names ≤ n = go.low in
            let old : begin_of x.function < n = go.old in
            let room : n + 2 * length (at ∷ row) ≤ m = go.room in
            let long : m + length (at ∷ row) ≤ length w.values = go.long in
            let same : length one.work.values ≡ length w.values = one.over.room in
            record {
              low = omega (arith, low);
              old = omega (arith, old);
              room = omega (arith, room);
              long = omega (arith, long, same);
              begun = one.over.others (begin_of x.function) go.old ∙ go.begun;
              there = there_on x is homes c law env a own block start elsewhere storable w n v j line kept go.low
                  one go.there;
              slots = λ u slot i other e.
                  let s = go.slots u slot i other e in
                  let lt : slot < n = s.0 in (
                    omega (arith, lt),
                    subst (IsValue homes (value_in env slot)) (sym (one.over.others slot lt)) s.1,
                  );
              fields = λ u i other l. field_on x is homes c law env a own block start elsewhere storable w n v j
                  line kept go.low one u i (go.fields u i other (inr l));
              right = right_next;
            }

        some_goes : Goes (Some j)
        some_goes =
            let r = more (at ∷ seen) one.work (n + 2) (m + 1) next in
            let low : length (named x).names ≤ n = go.low in
            let far : Far x is ≤ length (named x).names = far_named x is in
            let code = again_code x is k n m at f.offset j (omega (arith, low, far)) there (filler_left x is v j kept)
            (λ slot e. root_unfetched x is v slot (kept_root x is v j kept slot e)) f.told in
            record {
              work = r.work;
              spans = one.spans ++ r.spans;
              over = subst (λ (js : List Instr). RunsOver c js n (one.spans ++ r.spans) w r.work)
                  (sym
                  (grown_append (A x k) (m, tt) (again_one n (Some j)) (again_values (plan x).kept (n + 2) row)
                  ∙ (λ i. code.0 i ++ grown (A x k) (code.1 i) (again_values (plan x).kept (n + 2) row))))
                  (over_joined c line (row_code (n + 2) (m + 1) row) n one.spans r.spans w one.work r.work one.over
                  (over_fewer c (row_code (n + 2) (m + 1) row) n (n + 2) r.spans one.work r.work (omega arith) r.over));
              inside = each_joined _ one.spans r.spans
                  (each_turns
                  (λ (s : Span). (name : ℕ) × IsOneOf x is homes c law env a own block start elsewhere storable v j name
                  × Contains a.slots (record { alloca = name; block = s.block })) _
                  (λ s h. (
                    h.0,
                    is_cell x is homes c law env a own block start elsewhere storable w n v j line kept
                        go.low one h.0 h.1,
                    h.2,
                  )) one.spans one.of) r.inside;
              there = r.there;
              right = λ u i other l. r.right u i other
                  (⊎_elim (λ e. listed_right other.number row (at ∷ seen) (inl e))
                  (λ l. ⊎_elim (λ h. listed_left other.number row (at ∷ seen) h)
                  (λ h. listed_right other.number row (at ∷ seen) (inr h)) (listed_either other.number row seen l))
                  l);
            }

      goes : (o : Option KeptValue) → slice_get (plan x).kept at ≡ o → Goes o
      goes None e = none_goes e
      goes (Some j) e =
          let slots : List (Option ℕ) = slots_of (local x is) (bases_of (edged x)) in
          let y = kept_of (First x is) (Count x is) (value_types (F x is) (Kept x is)) (plan x).cells slots
          (Kept x is).values at j e in
          some_goes y.0 j ((keeping x is).back y.0 at y.1) e

    all_again : (row seen : List ℕ) (w : Work) (n m : ℕ) → MayGoOn w n m row seen
        → IsAgainAll w n (row_code n m row) (row ++ seen)
    all_again [] seen w n m go = record {
      work = w;
      spans = [];
      over = over_none c n w;
      inside = tt;
      there = go.there;
      right = go.right;
    }
    all_again (at ∷ row) seen w n m go =
        goes at row seen w n m go (all_again row) (slice_get (plan x).kept at) refl

-- ---- the whole line

-- what has no value is nothing in particular
no_value : (homes : List Home) (v u : Value) → v ≡ Value.Poison → IsValue homes v u
no_value homes v u e = subst (λ (z : Value). IsValue homes z u) (sym e) tt

pub loaded_again : (x : Framing) → IsFraming x → (homes : List Home) (c : Context) → AreByteRights c.rights
    → (env : Env) (a : Activation) (w : Work) (block start k n m : ℕ) (row : List ℕ)
    → length (named x).names ≤ n → MayLoadAgain x homes c w a env block start n m row
    → LoadsValues x homes c w a env k n m row
loaded_again x is homes c law env a w block start k n m row low may =
    let r = all_again x is homes c law env a may.own block start may.elsewhere may.storable k may.pointers row [] w n m
    (record {
      low = low;
      old = may.begin_old;
      room = may.room;
      long = may.long;
      begun = may.begun;
      there = may.cells;
      slots = may.slots;
      fields = may.fields;
      right = λ v j kept l. absurd l;
    }) in
    record {
      work = r.work;
      spans = r.spans;
      over = r.over;
      inside = r.inside;
      cells = record {
        values = λ v j kept. ⊎_elim (λ l. (r.right v j kept (listed_left kept.number row [] l)).value)
            (λ gone. cell_has c.rights r.work.world.memory (at_work a r.work) j.cell j.ty Anything
            (IsValue homes (value_in env v)) (λ u h. no_value homes (value_in env v) u gone) (r.there.values v j kept))
            (may.gone v j kept);
        distances = λ v cell slot e root. ⊎_elim
            (λ (h : (j : KeptValue) × (kept : IsKeptValue x v j) × IsListed kept.number row).
            (r.right v h.0 h.1 (listed_left h.1.number row [] h.2)).distance cell slot e root)
            (λ gone. cell_has c.rights r.work.world.memory (at_work a r.work) cell (int 64) Anything
            (IsDistanceOf (value_in env slot) (value_in env v)) (λ u h. inl gone) (r.there.distances v cell e))
            (may.no_links v cell e);
      };
    }
