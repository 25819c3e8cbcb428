-- Whether a text that was laid by itself has room in what is lent, told by the position after it. Assumes nothing.
use Rattle.std.specs.Prelude.{◌≡◌, true, false, List, ◌++◌, ℕ, ◌≤◌, ◌<◌, leb, length, take, drop, replicate}
use Rattle.vocabulary.specs.{sym, ap, ap₂, ◌∙◌, zero-add, arith, le-leb, lt-leb}
use Rattle.text.specs.{Text.laid, Holds.Holds}
use Rattle.text.proofs.Laying.{laid_room, holds_size, holds_length, holds_taken}
use Rattle.report.specs.Report.{has_room}
use Rattle.lines.specs.Lines.{longest_text}

module _ (t buffer : List ℕ) (end : ℕ) (held : Holds (replicate longest_text 0) t buffer end) (fits : length t ≤ longest_text) where
  pub length_told : end ≡ length t
  length_told = holds_length held fits

  pub end_within : end ≤ length buffer
  end_within = rw (holds_size held) (omega (arith, length_told))

  module _ (lent : List ℕ) where
    decided : has_room t lent ≡ leb end (length lent)
    decided = ap (λ (k : ℕ). leb k (length lent)) (sym length_told)

    pub past_lent : length lent < end → has_room t lent ≡ false
    past_lent h = decided ∙ lt-leb end (length lent) h

    -- the text, and then what was there
    pub written_there : take end buffer ++ drop end lent ≡ t ++ drop (length t) lent
    written_there = ap₂ (λ (l : List ℕ) (k : ℕ). l ++ drop k lent) (holds_taken held fits) length_told

    module _ (room : end ≤ length lent) where
      pub room_there : has_room t lent ≡ true
      room_there = decided ∙ le-leb end (length lent) room

      pub laid_there : laid lent 0 (take end buffer) ≡ t ++ drop (length t) lent
      laid_there =
          ap (laid lent 0) (holds_taken held fits)
          ∙ laid_room lent 0 t (omega (arith, length_told))
          ∙ ap (λ (k : ℕ). t ++ drop k lent) (zero-add (length t))
