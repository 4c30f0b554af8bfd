-- The words of a chunk of slots: what puts them into the frame.
use Rattle.std.specs.Prelude.{ℕ, Bool, List, [], bit_and, bit_or, ◌≡◌, Option, Some, None}
use Rattle.flow_reach.specs.flow_blocks.Edges.{graph_of}
use Rattle.ir_model.specs.declared.module.Function.{Function}
use Rattle.ir_model.specs.declared.operand.Intrinsic.{Intrinsic}
use Rattle.ir_paths.specs.Slots.{promise_of}
use Rattle.ir_paths.specs.Windows.{end_block}
use Rattle.ir_paths.specs.Paths.{has_point}
use Rattle.ir_paths.specs.declared.point.Point.{Point}
use Rattle.ir_paths.specs.declared.point.Window.{Window}
use Rattle.std.specs.List.{list_any}
use Rattle.flow_reach.specs.Reached.{AreReachedAt}
use Rattle.frame_classes.specs.Rows.{all_bits, block_words, call_rows, cleared, common, joined, kept_rows, others, rows_word, set_rows, touching_rows}
use Rattle.frame_classes.specs.Ways.{coming, edges_word, leaving, ways_of, ways_word}
use Rattle.frame_classes.specs.declared.chunk.Chunk.{Chunk}
use Rattle.frame_classes.specs.declared.plan.Plan.{Plan}
use Rattle.frame_slots.specs.rule_slots.Closed.{IsInSomeWindow}
use Rattle.frame_slots.specs.Told.{AreAddressWords, AreSlotWords}
use Rattle.frame_slots.specs.Markers.{mark_rows}
use Rattle.frame_slots.specs.Words.{blocks_word, edge_words, marker_rows, name_word, phi_uses, use_rows}
use Rattle.frame_slots.specs.declared.edge.EdgeWord.{EdgeWord}
use Rattle.frame_slots.specs.rule_windows.Sets.{AreThose}

-- ---- what is found of a function once

-- rows without a bit
abbrev pub none_rows : Function → List (List ℕ)
none_rows f = kept_rows 0 (call_rows Intrinsic.CoroSuspend all_bits f)

-- the rows of the points after the end
abbrev pub AreAfterRows : Function → List (List ℕ) → Type 0
AreAfterRows f rows = AreReachedAt f (coming f (call_rows Intrinsic.CoroEnd all_bits f) [] (none_rows f)) rows

-- the rows of the points in windows and after the end
pub record AreClosedRows (f : Function) (after rows : List (List ℕ)) : Type 0 where
  pub set : List (List Bool)
  pub is_set : AreThose (IsInSomeWindow f) set
  pub is : rows ≡ joined after (set_rows set 0 f.blocks)

-- the rows of the points outside the end block to which paths lead on the ways from blocks with these words
pub record AreBehindRows (f : Function) (own : List ℕ) (stops rows : List (List ℕ)) : Type 0 where
  pub reached : List (List ℕ)
  pub are_reached : AreReachedAt f (leaving (ways_of f) own stops (end_block f)) reached
  pub is : rows ≡ cleared reached (end_block f)

-- a point is inside one of these windows
abbrev pub is_inside_any : List Window → Point → Bool
is_inside_any windows p = list_any (λ w. has_point w.inside p) windows

pub record IsPlanOf (f : Function) (p : Plan) : Type 0 where
  pub graph : p.graph ≡ graph_of f
  pub end : p.end ≡ end_block f
  pub ways : p.ways ≡ ways_of f
  pub phis : p.phis ≡ phi_uses f
  pub marks : p.marks ≡ mark_rows f
  pub promise : p.promise ≡ promise_of f
  pub suspends : p.suspends ≡ call_rows Intrinsic.CoroSuspend all_bits f
  pub after : AreAfterRows f p.after
  pub closed : AreClosedRows f p.after p.closed
  pub own : p.own ≡ block_words p.suspends
  pub behind : AreBehindRows f p.own (none_rows f) p.behind

-- ---- what is found of a chunk of slots

pub record IsChunkOf (f : Function) (slots : List ℕ) (c : Chunk) : Type 0 where
  pub own : AreSlotWords slots c.own
  pub addresses : AreAddressWords f slots c.addresses
  pub uses : c.uses ≡ use_rows c.addresses f
  pub edges : c.edges ≡ edge_words c.addresses (phi_uses f)
  pub escaped : c.escaped ≡ blocks_word c.addresses 0 f.blocks
  pub starts : c.starts ≡ marker_rows Intrinsic.LifetimeStart c.own f

-- the chunk is that of some slots
pub record IsChunkBy (f : Function) (c : Chunk) : Type 0 where
  pub slots : List ℕ
  pub is_chunk : IsChunkOf f slots c

-- the slots that end at each point
abbrev pub end_rows : Function → Chunk → List (List ℕ)
end_rows f c = marker_rows Intrinsic.LifetimeEnd c.own f

-- the slots that start at each point and aren't escaped
abbrev pub parting_rows : Chunk → List (List ℕ)
parting_rows c = kept_rows (others c.escaped) c.starts

-- the slots that are used at each point, or start there and are escaped
abbrev pub touch_rows : Chunk → List (List ℕ)
touch_rows c = touching_rows c.escaped c.uses c.starts

-- ---- the words

-- what has a question of the words where it stands, at a point or on an edge
abbrev pub spots_word : Function → List (List ℕ) → List EdgeWord → List (List ℕ) → ℕ
spots_word f rows edges words = edges_word f words (rows_word 0 (common rows words)) edges

-- what stands behind suspends: on the ways from blocks with these words, or at points with those
abbrev pub late_word : Function → List (List ℕ) → List EdgeWord → List ℕ → List (List ℕ) → ℕ
late_word f touches edges own behind = ways_word (ways_of f) own (spots_word f touches edges behind) edges

-- used in a window or after the end, and touched behind a suspend
abbrev pub away_word : Function → Plan → Chunk → ℕ
away_word f p c = bit_and (spots_word f c.uses c.edges p.closed) (late_word f (touch_rows c) c.edges p.own p.behind)

-- the questions whose uses come to suspends, with no start between that parts them
pub record AreComing (f : Function) (p : Plan) (c : Chunk) (rows : List (List ℕ)) : Type 0 where
  pub reached : List (List ℕ)
  pub are_reached : AreReachedAt f (coming f c.uses c.edges (parting_rows c)) reached
  pub is : rows ≡ common p.suspends reached

-- the questions that come to a suspend by these rows and are touched behind it
pub record IsAcrossWord (f : Function) (c : Chunk) (rows : List (List ℕ)) (word : ℕ) : Type 0 where
  pub behind : List (List ℕ)
  pub are_behind : AreBehindRows f (block_words rows) (parting_rows c) behind
  pub is : word ≡ late_word f (touch_rows c) c.edges (block_words rows) behind

-- the questions whose slots have no markers
abbrev pub unmarked_word : Function → Chunk → ℕ
unmarked_word f c = others (rows_word (rows_word 0 c.starts) (end_rows f c))

-- where slots begin to be alive
abbrev pub birth_rows : Function → Chunk → List (List ℕ)
birth_rows f c = joined c.starts (call_rows Intrinsic.CoroBegin (unmarked_word f c) f)

-- where escaped slots may be alive
abbrev pub AreAliveRows : Function → Chunk → List (List ℕ) → Type 0
AreAliveRows f c rows = AreReachedAt f (coming f (birth_rows f c) [] (kept_rows c.escaped (end_rows f c))) rows

-- escaped, and alive at a suspend that a use comes to, or at any if a use stands after the end
pub record IsMetWord (f : Function) (p : Plan) (c : Chunk) (coming_rows : List (List ℕ)) (word : ℕ) : Type 0 where
  pub alive : List (List ℕ)
  pub are_alive : AreAliveRows f c alive
  pub is : word ≡ bit_and c.escaped (bit_or (rows_word 0 (common coming_rows alive)) (bit_and (spots_word f c.uses c.edges p.after) (rows_word 0 (common p.suspends alive))))

-- the same, or nothing where none is escaped
pub data IsAliveWord (f : Function) (p : Plan) (c : Chunk) (coming_rows : List (List ℕ)) (word : ℕ) : Type 0 where
  NoneEscapes : c.escaped ≡ 0 → word ≡ 0 → IsAliveWord f p c coming_rows word
  SomeEscape : IsMetWord f p c coming_rows word → IsAliveWord f p c coming_rows word

abbrev pub promise_word : Option ℕ → List ℕ → ℕ
promise_word None own = 0
promise_word (Some v) own = name_word own v

-- what puts slots into the frame
pub record IsFrameWord (f : Function) (p : Plan) (c : Chunk) (word : ℕ) : Type 0 where
  pub rows : List (List ℕ)
  pub are_coming : AreComing f p c rows
  pub across : ℕ
  pub is_across : IsAcrossWord f c rows across
  pub alive : ℕ
  pub is_alive : IsAliveWord f p c rows alive
  pub is : word ≡ bit_or (promise_word p.promise c.own) (bit_or (away_word f p c) (bit_or across alive))
