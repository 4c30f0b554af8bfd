-- In front of a block on a resume or destroy edge each value that crosses goes from its field to its cell; a distance
-- goes to its own cell, and the address so far from its slot to the value's.
use Rattle.std.proofs.Common.{◌≡◌, ◌⊎◌, inl, inr, ℕ, ◌+◌, ◌*◌, ◌%◌, ◌^◌, ◌<◌, Bool, false, List, [], ◌∷◌, ◌++◌, length, refl, sym, ap, ◌∙◌, subst, arith}
use Rattle.std.proofs.Math.Nat.{mod-add-mod}
use Rattle.std.proofs.lemmas.Bool.{lt-ltb}
use Rattle.std.specs.List.{Contains}
use Rattle.std.specs.Prelude.{Option, Some, ◌≢◌, ◌&&◌, ◌==◌, if◌then◌else◌}
use Rattle.pass_proofs.proofs.ir_laws.facts.Members.{each_joined, each_turns}
use Rattle.pass_proofs.specs.ir_model.Ty.{Ty, int, ptr}
use Rattle.pass_proofs.specs.ir_model.declared.instr.Instr.{Instr}
use Rattle.pass_proofs.specs.ir_model.declared.operand.Arg.{Arg}
use Rattle.pass_proofs.specs.ir_model.declared.operand.Operand.{Operand}
use Rattle.pass_proofs.specs.pass_cells.Moves.{store_to}
use Rattle.pass_proofs.specs.pass_fetch.Fetching.{address_behind, value_bytes}
use Rattle.pass_proofs.specs.pass_frames.Framed.{begin_of}
use Rattle.pass_frames_code.proofs.distances.Sums.{set_from, sets_on, value_set}
use Rattle.pass_frames_code.proofs.lines.Cells.{AreOf, cell_has, cell_on, cell_stays, cell_stores, inside_of, kept_type}
use Rattle.pass_frames_code.proofs.lines.Filled.{over_joined, over_sets}
use Rattle.pass_frames_code.proofs.lines.Results.{storable_stands}
use Rattle.pass_frames_code.proofs.lines.Fillers.{distance_stored}
use Rattle.pass_proofs.proofs.addresses.numbers.Done.{address_done}
use Rattle.pass_frames_code.specs.Distances.{SetsFrom}
use Rattle.pass_frames_code.specs.Lines.{HasOwnBlocks, IsKeptType, IsStorable, RunsOver, StoresCell, at_work}
use Rattle.pass_frames_code.specs.Places.{Framing}
use Rattle.pass_frames_code.specs.Related.{Anything, IsCell, IsDistanceOf}
use Rattle.pass_proofs.proofs.run_ints.Wraps.{bits_of-signed}
use Rattle.pass_proofs.specs.run_ints.declared.num.Num.{Num}
use Rattle.pass_proofs.proofs.run_laws.access.Done.{gep_done, load_done}
use Rattle.pass_proofs.specs.run_laws.access.Accessed.{Span}
use Rattle.pass_proofs.specs.run_laws.access.Lines.{Holds, pointer_at}
use Rattle.pass_proofs.specs.run_laws.changed.Changed.{Each}
use Rattle.pass_proofs.specs.run_laws.memory.Pointers.{Home, IsValue, home_of}
use Rattle.pass_proofs.specs.run_laws.memory.Standing.{AreByteRights}
use Rattle.pass_proofs.specs.run_memory.Memory.{decode}
use Rattle.pass_proofs.specs.run_memory.Pointers.{moved, offset_of}
use Rattle.pass_proofs.specs.run_memory.declared.block.Byte.{Byte}
use Rattle.pass_proofs.specs.run_memory.declared.pointer.Access.{Access}
use Rattle.pass_proofs.specs.run_memory.declared.pointer.Offset.{Offset}
use Rattle.pass_proofs.specs.run_memory.declared.pointer.Pointer.{Pointer}
use Rattle.pass_proofs.specs.run_memory.declared.pointer.Value.{Value}
use Rattle.pass_proofs.specs.run_source.declared.state.Activation.{Activation}
use Rattle.pass_proofs.specs.run_step.Step.{Context, Work, set_value}
use Rattle.pass_proofs.specs.run_step.Values.{Env, access_of, distance, element, index_of, indices_of, number_of_width, pointer_to, stored, times, value_in}

-- ---- addresses so far from a slot

-- an index that is a number of 64 bits
index_is : (d : ℕ) → d < 2 ^ 64
    → index_of (number_of_width 64 (Value.Int (record { width = 64; bits = d }))) ≡ Some d
index_is d lt =
    ap (λ (t : Bool). index_of (if (64 == 64) && t then Num.Is (record { width = 64; bits = d }) else Num.Poison))
    (lt-ltb d (2 ^ 64) lt) ∙ ap Some (bits_of-signed 64 d lt)

-- it doesn't matter whether the slot's home or the distance comes first
same_place : (h d : ℕ) → moved (moved (offset_of 0) h) d ≡ moved (record { bits = d }) h
same_place h d =
    ap (λ (n : ℕ). record { bits = n })
    (mod-add-mod (0 + h) (2 ^ 64) d ∙ ap (λ (n : ℕ). n % 2 ^ 64) (let s : 0 + h + d ≡ d + h = omega arith in s))

abbrev pub index : ℕ → Arg
index n = record { ty = int 64; value = Operand.Local n }

-- the instruction that makes the address
abbrev pub slot_address : ℕ → ℕ → Instr
slot_address n slot = Instr.Gep (n + 1) false (int 8) (Operand.Local slot) (index n ∷ [])

-- a field is loaded by its address
abbrev pub loaded_there : ℕ → ℕ → ℕ → ℕ → Ty → List Instr
loaded_there begin n m d ty = address_behind m begin d ∷ Instr.Load n ty (Operand.Local m) (value_bytes ty) ∷ []

module _ (x : Framing) (homes : List Home) (c : Context) (law : AreByteRights c.rights) (a : Activation)
    (own : HasOwnBlocks a) (block start : ℕ) where
  abbrev Cell : Work → ℕ → Ty → (Value → Type 0) → Type 0
  Cell w cell ty Has = IsCell c.rights w.world.memory (at_work a w) cell ty Has

  -- ---- a field is loaded

  pub record IsRead (w : Work) (n m d : ℕ) (ty : Ty) (v : Value) : Type 0 where
    pub work : Work
    pub over : RunsOver c (loaded_there (begin_of x.function) n m d ty) n [] w work
    pub value : value_in work.values n ≡ v

  pub field_read : (w : Work) (n m d : ℕ) (ty : Ty) (bytes : List Byte) → IsKeptType ty
      → begin_of x.function < n → n < m
      → m < length w.values → value_in w.values (begin_of x.function) ≡ pointer_at block start → start + d < 2 ^ 64
      → length bytes ≡ value_bytes ty → Holds c.rights w.world.memory block (start + d) (value_bytes ty) bytes
      → IsRead w n m d ty (decode (access_of ty) bytes)
  field_read w n m d ty bytes t old lt room begun near sized holds =
      let there : Value = pointer_at block (start + d) in
      let w1 : Work = set_value w m there in
      let v : Value = decode (access_of ty) bytes in
      let w2 : Work = set_value w1 n v in
      let one : SetsFrom n w w1 = set_from w n m there (omega (arith, lt)) in
      let two : SetsFrom n w1 w2 = set_from w1 n n v (omega arith) in
      let long : length w1.values ≡ length w.values = one.room in
      record {
        work = w2;
        over = over_sets c (loaded_there (begin_of x.function) n m d ty) n w w2 (
          w1,
          (
            address_done c w m block start d (Operand.Local (begin_of x.function)) begun near,
            (
              w2,
              (
                load_done c w1 n (value_bytes ty) block (start + d) (value_bytes ty) ty (Operand.Local m) bytes
                    (value_set w m m there room) holds (sized ∙ t.bytes) t.alignment (omega arith),
                refl,
              ),
            ),
          ),
        ) (sets_on n n w w1 w2 (omega arith) one two);
        value = value_set w1 n n v (omega (arith, lt, room, long));
      }

  -- ---- and stored into a cell

  pub record IsPut (w : Work) (n cell : ℕ) (ty : Ty) (line : List Instr) (v : Value) : Type 0 where
    pub work : Work
    pub spans : List Span
    pub over : RunsOver c line n spans w work
    pub of : AreOf c law a own cell spans
    pub value : value_in work.values n ≡ v
    pub cell_is : Cell work cell ty (λ (u : Value). u ≡ stored (access_of ty) v)

  pub field_put : (w : Work) (n m d cell : ℕ) (ty : Ty) (v : Value) → IsKeptType ty → cell < n
      → IsRead w n m d ty v → Cell w cell ty Anything
      → IsPut w n cell ty (loaded_there (begin_of x.function) n m d ty ++ (store_to ty n cell ∷ [])) v
  field_put w n m d cell ty v t lt r h =
      let there : Cell r.work cell ty Anything =
      cell_stays c.rights law [] w.world.memory r.work.world.memory a w r.work cell ty Anything r.over.fills h tt
      (r.over.others cell lt) in
      let s : StoresCell c r.work a n cell ty n = cell_stores c r.work a law n cell n ty Anything t there in
      record {
        work = s.work;
        spans = s.spans;
        over = over_joined c (loaded_there (begin_of x.function) n m d ty) (store_to ty n cell ∷ []) n [] s.spans w
            r.work s.work r.over s.over;
        of = inside_of c law a own cell s.cell_is.block s.spans s.cell_is.own s.inside;
        value = ap (λ (env : Env). value_in env n) s.values ∙ r.value;
        cell_is = subst (λ (u : Value). Cell s.work cell ty (λ (z : Value). z ≡ stored (access_of ty) u)) r.value
            s.cell_is;
      }

  -- ---- the address so far from a slot

  record IsAddressed (w : Work) (n slot : ℕ) (root v : Value) : Type 0 where
    made : Value
    pub work : Work
    pub over : RunsOver c (slot_address n slot ∷ []) n [] w work
    pub value : value_in work.values (n + 1) ≡ made
    stands : IsValue homes v made

  slot_reached : (w : Work) (n slot : ℕ) (root v d : Value) → n + 1 < length w.values → value_in w.values n ≡ d
      → IsValue homes root (value_in w.values slot) → IsDistanceOf root v d → IsAddressed w n slot root v
  slot_reached w n slot root v d room is_d stands (inl e) =
      let made : Value =
      element w.world.memory false (value_in w.values slot)
      (distance c.code (int 8) (indices_of c.code w.values (index n ∷ []))) in
      let y : Work = set_value w (n + 1) made in
      record {
        made = made;
        work = y;
        over = over_sets c (slot_address n slot ∷ []) n w y (y, (refl, refl)) (set_from w n (n + 1) made (omega arith));
        value = value_set w (n + 1) (n + 1) made room;
        stands = subst (λ (z : Value). IsValue homes z made) (sym e) tt;
      }
  slot_reached w n slot root v d room is_d stands (inr h) =
      let b : ℕ = h.0 in
      let o : Offset = h.1 in
      let at : IsValue homes (pointer_to b) (value_in w.values slot) =
      subst (λ (z : Value). IsValue homes z (value_in w.values slot)) h.2 stands in
      let start : Offset = moved (offset_of 0) (home_of homes b).offset in
      let made : Value = Value.Ptr (Pointer.At (home_of homes b).block (moved start o.bits)) in
      let y : Work = set_value w (n + 1) made in
      let small : o.bits < 2 ^ 64 = h.4 in
      let once : (1 * o.bits) % 2 ^ 64 ≡ o.bits = omega (arith, small) in
      let far : distance c.code (int 8) (indices_of c.code w.values (index n ∷ [])) ≡ Some o.bits =
      ap (λ (u : Value). times 1 (index_of (number_of_width 64 u))) (is_d ∙ h.5)
      ∙ ap (λ (i : Option ℕ). times 1 i) (index_is o.bits small)
      ∙ ap (λ (k : ℕ). Some k) once in
      record {
        made = made;
        work = y;
        over = over_sets c (slot_address n slot ∷ []) n w y (
          y,
          (
            gep_done c w (n + 1) (home_of homes b).block o.bits start false (int 8) (Operand.Local slot)
                (index n ∷ []) at.1 far (λ e. absurd (cc)),
            refl,
          ),
        ) (set_from w n (n + 1) made (omega arith));
        value = value_set w (n + 1) (n + 1) made room;
        stands = subst (λ (z : Value). IsValue homes z made) (sym h.3) (
          at.0,
          ap (λ (p : Offset). Value.Ptr (Pointer.At (home_of homes b).block p))
              (same_place (home_of homes b).offset o.bits),
        );
      }

  -- ---- a distance: it goes to its cell, and the address so far from the slot to that of the value

  pub record IsPutFar (w : Work) (n cell far : ℕ) (line : List Instr) (root v : Value) : Type 0 where
    pub work : Work
    pub spans : List Span
    pub over : RunsOver c line n spans w work
    pub of : Each (λ (s : Span).
        (name : ℕ) × ((name ≡ cell) ⊎ (name ≡ far)) × Contains a.slots (record { alloca = name; block = s.block }))
        spans
    pub cell_is : Cell work cell ptr (IsValue homes v)
    pub far_is : Cell work far (int 64) (IsDistanceOf root v)

  pub distance_put : (w : Work) (n m d cell far slot : ℕ) (root v u : Value) → cell < n → far < n → slot < n
      → cell ≢ far → n + 1 < length w.values → IsStorable ptr v → IsRead w n m d (int 64) u → IsDistanceOf root v u
      → IsValue homes root (value_in w.values slot) → Cell w far (int 64) Anything → Cell w cell ptr Anything
      → IsPutFar w n cell far
      ((loaded_there (begin_of x.function) n m d (int 64) ++ (store_to (int 64) n far ∷ []))
      ++ ((slot_address n slot ∷ []) ++ (store_to ptr (n + 1) cell ∷ []))) root v
  distance_put w n m d cell far slot root v u low lower lowest apart room fits r is_u stands there own_cell =
      let one : IsPut w n far (int 64) (loaded_there (begin_of x.function) n m d (int 64) ++ (store_to (int 64) n
      far ∷ [])) u =
      field_put w n m d far (int 64) u (kept_type (int 64) refl) lower r there in
      let y : Work = one.work in
      let long : length y.values ≡ length w.values = one.over.room in
      let two : IsAddressed y n slot root v =
      slot_reached y n slot root v u (omega (arith, room, long)) one.value
      (subst (λ (z : Value). IsValue homes root z) (sym (one.over.others slot lowest)) stands) is_u in
      let z : Work = two.work in
      let cell1 : Cell y cell ptr Anything =
      cell_on c law a own (loaded_there (begin_of x.function) n m d (int 64) ++ (store_to (int 64) n far ∷ [])) n
      far cell ptr Anything one.spans w y
      one.over one.of low apart own_cell in
      let cell2 : Cell z cell ptr Anything =
      cell_stays c.rights law [] y.world.memory z.world.memory a y z cell ptr Anything two.over.fills cell1 tt
      (two.over.others cell low) in
      let s : StoresCell c z a (n + 1) cell ptr n =
      cell_stores c z a law (n + 1) cell n ptr Anything (kept_type ptr refl) cell2 in
      let far1 : Cell y far (int 64) (IsDistanceOf root v) =
      cell_has c.rights y.world.memory (at_work a y) far (int 64)
      (λ (q : Value). q ≡ stored (Access.Int 64) u) (IsDistanceOf root v)
      (λ q e. subst (IsDistanceOf root v) (sym e) (distance_stored root v u is_u)) one.cell_is in
      let far2 : Cell z far (int 64) (IsDistanceOf root v) =
      cell_stays c.rights law [] y.world.memory z.world.memory a y z far (int 64) (IsDistanceOf root v) two.over.fills
      far1 tt (two.over.others far lower) in
      let of2 : AreOf c law a own cell s.spans =
      inside_of c law a own cell s.cell_is.block s.spans s.cell_is.own s.inside in
      let pair : RunsOver c ((slot_address n slot ∷ []) ++ (store_to ptr (n + 1) cell ∷ [])) n ([] ++ s.spans) y
      s.work =
      over_joined c (slot_address n slot ∷ []) (store_to ptr (n + 1) cell ∷ []) n [] s.spans y z s.work two.over
      s.over in
      record {
        work = s.work;
        spans = one.spans ++ s.spans;
        over = over_joined c (loaded_there (begin_of x.function) n m d (int 64) ++ (store_to (int 64) n far ∷ []))
            ((slot_address n slot ∷ []) ++ (store_to ptr (n + 1) cell ∷ [])) n one.spans s.spans w y s.work
            one.over pair;
        of = each_joined _ one.spans s.spans
            (each_turns (λ (q : Span). Contains a.slots (record { alloca = far; block = q.block })) _
            (λ q co. (far, inr refl, co)) one.spans one.of)
            (each_turns (λ (q : Span). Contains a.slots (record { alloca = cell; block = q.block })) _
            (λ q co. (cell, inl refl, co)) s.spans of2);
        cell_is = cell_has c.rights s.work.world.memory (at_work a s.work) cell ptr
            (λ (q : Value). q ≡ stored Access.Ptr (value_in z.values (n + 1))) (IsValue homes v)
            (λ q e. subst (IsValue homes v)
            (sym (e ∙ ap (stored Access.Ptr) two.value))
            (storable_stands homes ptr v two.made fits two.stands)) s.cell_is;
        far_is = cell_on c law a own (store_to ptr (n + 1) cell ∷ []) n cell far (int 64) (IsDistanceOf root v)
            s.spans z s.work s.over
            of2 lower (λ e. apart (sym e)) far2;
      }
