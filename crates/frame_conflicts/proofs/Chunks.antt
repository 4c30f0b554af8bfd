-- What is known of chunks of slots.
use Rattle.std.proofs.Common.{◌≡◌, ℕ, zero, suc, ◌+◌, ◌*◌, ◌/◌, ◌<◌, ◌≤◌, ◌⊎◌, Bool, List, [], ◌∷◌, ◌++◌, length, map, take, drop, Some, None, Option, refl, sym, ap, ◌∙◌, subst, ⊎_elim, inl, inr, arith, length-append}
use Rattle.std.specs.Prelude.{bit_and, bit_xor, option_map, slice_get, unwrap_or}
use Rattle.std.proofs.lemmas.Bool.{cases_lt}
use Rattle.flow_bits.specs.Bits.{HasBit}
use Rattle.frame_classes.specs.flow_blocks.Words.{word_at}
use Rattle.flow_solver.proofs.Lists.{listed_at}
use Rattle.ir_model.specs.declared.module.Function.{Function}
use Rattle.ir_paths.specs.Slots.{allocas_of}
use Rattle.ir_paths.specs.declared.point.Point.{Point}
use Rattle.frame_classes.proofs.flow_reach.Bits.{both_bits, bit_or_not, common_bit, flipped_off, flipped_on}
use Rattle.frame_classes.specs.flow_reach.Reached.{word_at_point}
use Rattle.frame_classes.specs.flow_reach.Rows.{all_bits}
use Rattle.frame_conflicts.proofs.Places.{map_some, some_map, word_of_some, word_some}
use Rattle.frame_conflicts.specs.Conflicts.{IsUsedEarly}
use Rattle.frame_conflicts.specs.Early.{AreEarly}
use Rattle.frame_conflicts.specs.Known.{AreChunks, AreMet, AreMetFor, AreSpotsAt, IsSeen, TellsChunk, chunk_slots, seen_at, seen_word}
use Rattle.frame_conflicts.specs.Looked.{AreLooked}
use Rattle.frame_conflicts.specs.Meeting.{AreMeetings, spots_from}
use Rattle.frame_conflicts.specs.Started.{AreStarted, HaveMarkers}
use Rattle.frame_conflicts.specs.declared.facts.Chunk.{Chunk}
use Rattle.frame_classes.specs.Alive.{markers_of}

-- ---- one chunk

pub chunk_tells : (f : Function) (looked : List Point) (slots : List ℕ) (rows : List (List ℕ)) (marked early loose : ℕ) (seen spots : List ℕ) → AreLooked f looked → AreStarted f slots rows → HaveMarkers f slots marked → AreEarly f slots early →
    loose ≡ bit_and marked (bit_xor early all_bits) → seen ≡ map (seen_word rows loose) looked → spots ≡ spots_from 0 seen → TellsChunk f looked slots (record { loose = loose; seen = seen; spots = spots })
chunk_tells f looked slots rows marked early loose seen spots are_looked started markers are_early loose_is seen_is spots_are = record { loose = is_loose; tight = is_tight; seen = λ c slot k lt is h. (to c slot k lt is h, from c slot k lt is h); spots = spots_are }
  where
    two : (c : ℕ) → HasBit loose c → HasBit marked c × HasBit (bit_xor early all_bits) c
    two c h = both_bits marked (bit_xor early all_bits) c (subst (λ (w : ℕ). HasBit w c) loose_is h)

    is_loose : (c slot : ℕ) → c < 64 → slice_get slots c ≡ Some slot → HasBit loose c → (markers_of f slot ≡ [] → ⊥) × (IsUsedEarly f slot → ⊥)
    is_loose c slot lt is h = (λ none. markers.marked c slot lt is (two c h).0 none, λ used. flipped_off early c lt (two c h).1 ((are_early.each c slot lt is).1 used))

    is_tight : (c slot : ℕ) → c < 64 → slice_get slots c ≡ Some slot → (HasBit loose c → ⊥) → (markers_of f slot ≡ []) ⊎ IsUsedEarly f slot
    is_tight c slot lt is never = ⊎_elim
        (λ has. ⊎_elim
        (λ used. inr ((are_early.each c slot lt is).0 used))
        (λ unused. absurd (never (subst (λ (w : ℕ). HasBit w c) (sym loose_is) (common_bit marked (bit_xor early all_bits) c has (flipped_on early c lt unused)))))
        (bit_or_not early c))
        (λ none. inl (markers.unmarked c slot lt is none))
        (bit_or_not marked c)

    to : (c slot k : ℕ) → c < 64 → slice_get slots c ≡ Some slot → HasBit loose c → HasBit (word_at seen k) c → IsSeen f slot looked k
    to c slot k lt is h has =
        let w : (x : ℕ) × (slice_get seen k ≡ Some x) × HasBit x c = word_some seen k c has in
        let p : (q : Point) × (slice_get looked k ≡ Some q) × (w.0 ≡ seen_word rows loose q) = some_map (seen_word rows loose) looked k w.0 (ap (λ (l : List ℕ). slice_get l k) (sym seen_is) ∙ w.1) in
        let there = (both_bits (word_at_point rows p.0) loose c (subst (λ (x : ℕ). HasBit x c) p.2 w.2)).0 in
        record {
          point = p.0;
          is_point = p.1;
          is_started = (started.each p.0 c slot (are_looked.are_outside p.0 (listed_at looked k p.0 p.1)).is_point lt is).0 there;
        }

    from : (c slot k : ℕ) → c < 64 → slice_get slots c ≡ Some slot → HasBit loose c → IsSeen f slot looked k → HasBit (word_at seen k) c
    from c slot k lt is h s =
        subst (λ (x : ℕ). HasBit x c)
        (sym (word_of_some seen k (seen_word rows loose s.point) (ap (λ (l : List ℕ). slice_get l k) seen_is ∙ map_some (seen_word rows loose) looked k s.point s.is_point)))
        (common_bit (word_at_point rows s.point) loose c ((started.each s.point c slot (are_looked.are_outside s.point (listed_at looked k s.point s.is_point)).is_point lt is).1 s.is_started) h)

-- ---- lists that grow

last_or_before : {X : Type 0} (xs : List X) (x y : X) (k : ℕ) → slice_get (xs ++ x ∷ []) k ≡ Some y → (slice_get xs k ≡ Some y) ⊎ ((k ≡ length xs) × (y ≡ x))
last_or_before [] x y zero e = let same : x ≡ y = cc in inr (refl, sym same)
last_or_before [] x y (suc k) e = absurd (cc)
last_or_before (z ∷ xs) x y zero e = inl e
last_or_before (z ∷ xs) x y (suc k) e = ⊎_elim (λ h. inl h) (λ h. inr (ap suc h.0, h.1)) (last_or_before xs x y k e)

pub no_chunks : (f : Function) (looked : List Point) → AreChunks f looked []
no_chunks f looked = record { each = λ k chunk e. absurd (cc) }

pub more_chunks : (f : Function) (looked : List Point) (chunks next : List Chunk) (chunk : Chunk) (n : ℕ) (here slots : List ℕ) → next ≡ chunks ++ chunk ∷ [] → length chunks ≡ n → slots ≡ allocas_of f → here ≡ take 64 (drop (64 * n) slots) → TellsChunk f looked here chunk →
    AreChunks f looked chunks → (length next ≡ n + 1) × AreChunks f looked next
more_chunks f looked chunks next chunk n here slots is len slots_are here_is tells known = (
  ap length is ∙ length-append chunks (chunk ∷ []) ∙ ap (λ (k : ℕ). k + 1) len,
  record {
    each = λ k x e. ⊎_elim
        (λ old. known.each k x old)
        (λ new. subst (λ (y : Chunk). TellsChunk f looked (chunk_slots f k) y) (sym new.1)
        (subst (λ (m : ℕ). TellsChunk f looked (chunk_slots f m) chunk) (sym (new.0 ∙ len))
        (subst (λ (l : List ℕ). TellsChunk f looked l chunk) (here_is ∙ ap (λ (l : List ℕ). take 64 (drop (64 * n) l)) slots_are) tells)))
        (last_or_before chunks chunk x k (ap (λ (l : List Chunk). slice_get l k) (sym is) ∙ e));
  },
)

pub all_in_chunks : (slots : List ℕ) (f : Function) (count n : ℕ) (chunks : List Chunk) → slots ≡ allocas_of f → length slots ≤ count * 64 → count ≤ n → length chunks ≡ n → (i : ℕ) → i < length (allocas_of f) → i / 64 < length chunks
all_in_chunks slots f count n chunks slots_are le more len i lt = let same = ap length slots_are in omega (arith, same, le, more, len, lt)

pub chunk_spots : (f : Function) (looked : List Point) (chunks : List Chunk) (k : ℕ) → AreChunks f looked chunks → AreSpotsAt chunks k
chunk_spots f looked chunks k known = by (slice_get chunks k) refl
  where
    by : (o : Option Chunk) → slice_get chunks k ≡ o → unwrap_or (option_map (λ (x : Chunk). x.spots) o) [] ≡ spots_from 0 (unwrap_or (option_map (λ (x : Chunk). x.seen) o) [])
    by None e = refl
    by (Some chunk) e = (known.each k chunk e).spots

-- ---- meetings

pub none_met : (chunks : List Chunk) (a : ℕ) (met : List (List ℕ)) → met ≡ [] → AreMetFor chunks a 0 met
none_met chunks a met is = subst (AreMetFor chunks a 0) (sym is) (record { is_long = refl; are_met = record { each = λ b words le e. absurd (cc) } })

pub more_met : (chunks : List Chunk) (a n : ℕ) (met next : List (List ℕ)) (words : List ℕ) → next ≡ met ++ words ∷ [] → (a ≤ n → AreMeetings (seen_at chunks a) (seen_at chunks n) words) → AreMetFor chunks a n met → AreMetFor chunks a (n + 1) next
more_met chunks a n met next words is meets m = record {
  is_long = ap length is ∙ length-append met (words ∷ []) ∙ ap (λ (k : ℕ). k + 1) m.is_long;
  are_met = record {
    each = λ b ws le e. ⊎_elim
        (λ old. m.are_met.each b ws le old)
        (λ new.
        let same : b ≡ n = new.0 ∙ m.is_long in
        subst (λ (l : List ℕ). AreMeetings (seen_at chunks a) (seen_at chunks b) l) (sym new.1)
        (subst (λ (k : ℕ). AreMeetings (seen_at chunks a) (seen_at chunks k) words) (sym same) (meets (omega (arith, le, same)))))
        (last_or_before met words ws b (ap (λ (l : List (List ℕ)). slice_get l b) (sym is) ∙ e));
  };
}
