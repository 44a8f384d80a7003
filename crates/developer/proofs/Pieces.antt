-- Bytes that are written in pieces.
use Rattle.std.proofs.Common.{◌≡◌, ℕ, ◌+◌, ◌*◌, ◌<◌, List, [], ◌++◌, length, take, drop, Result, Ok, Err, refl, sym}
use Rattle.std.proofs.Common.{◌∙◌, ap, append_assoc, arith, length-append}
use Rattle.std.proofs.lemmas.List.{append-nil, take-append-drop}
use Rattle.dev_settings.specs.declared.format.Format.{Format}
use Rattle.image_out.specs.Image.{pixels_of}
use Rattle.image_out.proofs.ImageLaws.{pixels_of-append}
use Rattle.developer.specs.inner.Pieces.{InPieces}
use Rattle.developer.specs.inner.Writes.{Writes}
use Rattle.developer.specs.declared.writing.Stop.{Stop}
use Rattle.developer.proofs.Written.{writes_nothing, writes_same, writes_stops}

module _ {S : Type 0} (stands_for : S → List ℕ → Type 0) (faults : S → ℕ) (first : S) where
  -- no byte was written
  pub pieces_none : (piece : List ℕ) → InPieces stands_for faults first first piece piece 0
  pieces_none piece = record { sent = []; writes = writes_nothing stands_for faults first (λ n. n) 0 refl; rest = refl }

  -- the same bytes
  pub pieces_same : (now : S) (all others piece : List ℕ) (written : ℕ) → all ≡ others
      → InPieces stands_for faults first now all piece written
      → InPieces stands_for faults first now others piece written
  pieces_same now all others piece written is so-far = record {
    sent = so-far.sent;
    writes = so-far.writes;
    rest = so-far.rest ∙ is;
  }

  module _ (now : S) (all piece : List ℕ) (written : ℕ) (so-far : InPieces stands_for faults first now all piece
      written) where
    -- what the piece holds is written last
    pub pieces_end : (new : S) (result : Result ℕ Stop) → Writes stands_for faults first new (so-far.sent ++ piece)
        (λ n. n) result → Writes stands_for faults first new all (λ n. n) result
    pieces_end new result w = writes_same stands_for faults first new (so-far.sent ++ piece) all (λ n. n) result
        so-far.rest w

    module _ (more held : List ℕ) (is : held ≡ piece ++ more) where
      -- more bytes are behind what was written
      with_more : so-far.sent ++ held ≡ all ++ more
      with_more =
          ap (λ (bytes : List ℕ). so-far.sent ++ bytes) is
          ∙ (sym (append_assoc so-far.sent piece more) ∙ ap (λ (bytes : List ℕ). bytes ++ more) so-far.rest)

      -- the piece holds them
      pub pieces_held : InPieces stands_for faults first now (all ++ more) held written
      pieces_held = record { sent = so-far.sent; writes = so-far.writes; rest = with_more }

      -- the piece was written with them
      pub pieces_sent : (new : S) (total : ℕ) → Writes {T = ℕ} stands_for faults first new (so-far.sent ++ held)
          (λ n. n) (Ok total) → InPieces stands_for faults first new (all ++ more) [] total
      pieces_sent new total w =
          record { sent = so-far.sent ++ held; writes = w; rest = append-nil (so-far.sent ++ held) ∙ with_more }

      -- writing it stopped
      pub pieces_stop : (new : S) (behind : List ℕ) (stop : Stop)
          → Writes {T = ℕ} stands_for faults first new (so-far.sent ++ held) (λ n. n) (Err stop)
          → Writes {T = ℕ} stands_for faults first new ((all ++ more) ++ behind) (λ n. n) (Err stop)
      pieces_stop new behind stop w =
          writes_stops stands_for faults first new (all ++ more) behind (λ n. n) (λ n. n) stop
          (writes_same stands_for faults first new (so-far.sent ++ held) (all ++ more) (λ n. n) (Err stop) with_more w)

-- the first of some samples were appended to a piece, which was written where it was full
pub record Appended {S : Type 0} (stands_for : S → List ℕ → Type 0) (faults : S → ℕ) (format : Format) (start now : S)
    (samples rest held piece : List ℕ) (before written : ℕ) : Type 0 where
  pub prefix : List ℕ
  pub parts : prefix ++ rest ≡ samples
  pub pieces : (first : S) (all : List ℕ) → InPieces stands_for faults first start all held before
      → InPieces stands_for faults first now (all ++ pixels_of format prefix) piece written
  pub room : length piece < 65536
  pub number : written + length piece ≡ before + length held + 2 * length prefix

-- a list that was cut
pub cut_at : (n : ℕ) (rest row below : List ℕ) → row ≡ take n rest → below ≡ drop n rest → rest ≡ row ++ below
cut_at n rest row below is-row is-below = sym (rw (is-row, is-below) (take-append-drop n rest))

module _ {S : Type 0} (stands_for : S → List ℕ → Type 0) (faults : S → ℕ) (format : Format) (start : S)
    (samples held : List ℕ) (before : ℕ) where
  module _ (now : S) (rest piece : List ℕ) (written : ℕ) (so-far : Appended stands_for faults format start now samples
      rest held piece before written)
      (row below pushed : List ℕ) (cut : rest ≡ row ++ below) (is : pushed ≡ piece ++ pixels_of format row) where
    -- a row more
    next_parts : (so-far.prefix ++ row) ++ below ≡ samples
    next_parts = append_assoc so-far.prefix row below ∙ (ap (λ (xs : List ℕ). so-far.prefix ++ xs) (sym cut)
        ∙ so-far.parts)

    next_pixels : (all : List ℕ) → (all ++ pixels_of format so-far.prefix) ++ pixels_of format row ≡ all
        ++ pixels_of format (so-far.prefix ++ row)
    next_pixels all =
        append_assoc all (pixels_of format so-far.prefix) (pixels_of format row)
        ∙ ap (λ (bytes : List ℕ). all ++ bytes) (sym (pixels_of-append format so-far.prefix row))

    all_pixels : (all : List ℕ) → ((all ++ pixels_of format so-far.prefix) ++ pixels_of format row)
        ++ pixels_of format below ≡ all ++ pixels_of format samples
    all_pixels all =
        ap (λ (bytes : List ℕ). bytes ++ pixels_of format below) (next_pixels all)
        ∙ (append_assoc all (pixels_of format (so-far.prefix ++ row)) (pixels_of format below)
        ∙ ap (λ (bytes : List ℕ). all ++ bytes) (sym (pixels_of-append format (so-far.prefix ++ row) below)
        ∙ ap (pixels_of format) next_parts))

    -- the piece has room
    pub appended_held : length pushed < 65536 → length pushed ≡ length piece + 2 * length row
        → Appended stands_for faults format start now samples below held pushed before written
    appended_held room long = record {
      prefix = so-far.prefix ++ row;
      parts = next_parts;
      pieces = λ first all h.
          pieces_same stands_for faults first now _ _ pushed written (next_pixels all)
          (pieces_held stands_for faults first now (all ++ pixels_of format so-far.prefix) piece written
          (so-far.pieces first all h) (pixels_of format row) pushed is);
      room = room;
      number = omega (arith, so-far.number, long, length-append so-far.prefix row);
    }

    -- it was written
    pub appended_sent : (new : S) (total : ℕ) → total ≡ written + length pushed
        → length pushed ≡ length piece + 2 * length row
        → ((first : S) (sent : List ℕ) → Writes {T = ℕ} stands_for faults first now sent (λ n. n) (Ok written)
        → Writes {T = ℕ} stands_for faults first new (sent ++ pushed) (λ n. n) (Ok total))
        → Appended stands_for faults format start new samples below held [] before total
    appended_sent new total sum long writes = record {
      prefix = so-far.prefix ++ row;
      parts = next_parts;
      pieces = λ first all h.
          let so = so-far.pieces first all h in
          pieces_same stands_for faults first new _ _ [] total (next_pixels all)
          (pieces_sent stands_for faults first now (all ++ pixels_of format so-far.prefix) piece written so
          (pixels_of format row) pushed is new total (writes first so.sent so.writes));
      room = omega arith;
      number = omega (arith, so-far.number, sum, long, length-append so-far.prefix row);
    }

    -- writing it stopped
    pub appended_stops : (new : S) (stop : Stop)
        → ((first : S) (sent : List ℕ) → Writes {T = ℕ} stands_for faults first now sent (λ n. n) (Ok written)
        → Writes {T = ℕ} stands_for faults first new (sent ++ pushed) (λ n. n) (Err stop))
        → (first : S) (all : List ℕ) → InPieces stands_for faults first start all held before
        → Writes {T = ℕ} stands_for faults first new (all ++ pixels_of format samples) (λ n. n) (Err stop)
    appended_stops new stop writes first all h =
        let so = so-far.pieces first all h in
        writes_same stands_for faults first new _ _ (λ n. n) (Err stop) (all_pixels all)
        (pieces_stop stands_for faults first now (all ++ pixels_of format so-far.prefix) piece written so
        (pixels_of format row) pushed is new (pixels_of format below) stop (writes first so.sent so.writes))
