-- Laws of lines: a text split at its line feeds, and each line at its spaces, gives back the parts; how long lines are. Assumes nothing.
use Rattle.std.specs.Prelude.{◌≡◌, refl, Bool, true, false, not, List, [], ◌∷◌, ◌++◌, map, ℕ, zero, suc, ◌+◌, ◌*◌, ◌≤◌, ◌<◌, T, eqb, length}
use Rattle.vocabulary.specs.{sym, ap, ap₂, ◌∙◌, append_assoc, append-nil, add-one, arith, eq-eqb, length-append, append_snoc}
use Rattle.whole.specs.Lists.{every, listed}
use Rattle.whole.proofs.Computed.{and_left, and_right}
use Rattle.text.specs.Text.{space, line_feed, spaced, line, lines, is_plain, is_word, begun, split, split_lines, parts, read_lines}
use Rattle.text.proofs.Tests.{every_append, every_also}

-- ---- Splitting

-- a byte is not this mark
abbrev other : ℕ → ℕ → Bool
other mark b = not (eqb b mark)

is_other : (mark b : ℕ) → T (other mark b) → eqb b mark ≡ false
is_other mark b t = go (eqb b mark) t
  where
    go : (same : Bool) → T (not same) → same ≡ false
    go true t = absurd t
    go false t = refl

-- a piece that ends at a mark
split_piece : (mark : ℕ) (p t : List ℕ) → T (every (other mark) p) → split mark (p ++ (mark ∷ t)) ≡ p ∷ split mark t
unfolding split
split_piece mark [] t h = rw (eq-eqb mark mark refl)
split_piece mark (b ∷ p) t h =
    rw (is_other mark b (and_left (other mark b) (every (other mark) p) h), split_piece mark p t (and_right (other mark b) (every (other mark) p) h))

-- a last piece that ends with the text
split_last : (mark b : ℕ) (p : List ℕ) → T (every (other mark) (b ∷ p)) → split mark (b ∷ p) ≡ (b ∷ p) ∷ []
unfolding split
split_last mark b [] h = rw (is_other mark b (and_left (other mark b) true h))
split_last mark b (c ∷ p) h =
    rw (is_other mark b (and_left (other mark b) (every (other mark) (c ∷ p)) h)) (ap (begun b) (split_last mark c p (and_right (other mark b) (every (other mark) (c ∷ p)) h)))

-- the bytes of a part, and of a line's parts with the spaces between
part_other : (mark : ℕ) → ((b : ℕ) → T (is_plain b) → T (other mark b)) → (p : List ℕ) → T (is_word p) → T (every (other mark) p)
part_other mark f [] t = absurd t
part_other mark f (b ∷ p) t = every_also is_plain (other mark) f (b ∷ p) t

no_space : (b : ℕ) → T (is_plain b) → T (other space b)
no_space b t = and_left (other space b) (other line_feed b) t

no_line_feed : (b : ℕ) → T (is_plain b) → T (other line_feed b)
no_line_feed b t = and_right (other space b) (other line_feed b) t

spaced_other : (ps : List (List ℕ)) → T (every is_word ps) → T (every (other line_feed) (spaced ps))
unfolding spaced
spaced_other [] t = tt
spaced_other (p ∷ []) t = part_other line_feed no_line_feed p (and_left (is_word p) true t)
spaced_other (p ∷ q ∷ ps) t =
    every_append (other line_feed) p (space ∷ spaced (q ∷ ps)) (part_other line_feed no_line_feed p (and_left (is_word p) (every is_word (q ∷ ps)) t))
    (spaced_other (q ∷ ps) (and_right (is_word p) (every is_word (q ∷ ps)) t))

-- ---- Reading back

-- a line split at its spaces gives back its parts
pub parts_spaced : (ps : List (List ℕ)) → T (every is_word ps) → parts (spaced ps) ≡ ps
unfolding spaced split
parts_spaced [] t = refl
parts_spaced (p ∷ []) t = last p (and_left (is_word p) true t)
  where
    last : (p : List ℕ) → T (is_word p) → parts p ≡ p ∷ []
    last [] t = absurd t
    last (b ∷ p) t = split_last space b p (part_other space no_space (b ∷ p) t)
parts_spaced (p ∷ q ∷ ps) t =
    split_piece space p (spaced (q ∷ ps)) (part_other space no_space p (and_left (is_word p) (every is_word (q ∷ ps)) t))
    ∙ ap (λ (l : List (List ℕ)). p ∷ l) (parts_spaced (q ∷ ps) (and_right (is_word p) (every is_word (q ∷ ps)) t))

-- a text split at its line feeds gives back its lines
pub split_lines_lem : (pss : List (List (List ℕ))) → T (every (every is_word) pss) → split_lines (lines pss) ≡ map spaced pss
unfolding line lines split
split_lines_lem [] t = refl
split_lines_lem (ps ∷ pss) t =
    ap split_lines (append_snoc (spaced ps) line_feed (lines pss))
    ∙ split_piece line_feed (spaced ps) (lines pss) (spaced_other ps (and_left (every is_word ps) (every (every is_word) pss) t))
    ∙ ap (λ (l : List (List ℕ)). spaced ps ∷ l) (split_lines_lem pss (and_right (every is_word ps) (every (every is_word) pss) t))

-- a text split into lines, and each line into parts, gives back the parts of each line
pub read_lines_lem : (pss : List (List (List ℕ))) → T (every (every is_word) pss) → read_lines (lines pss) ≡ pss
unfolding read_lines
read_lines_lem pss t = ap (map parts) (split_lines_lem pss t) ∙ each pss t
  where
    each : (pss : List (List (List ℕ))) → T (every (every is_word) pss) → map parts (map spaced pss) ≡ pss
    each [] t = refl
    each (ps ∷ pss) t =
        ap₂ ◌∷◌ (parts_spaced ps (and_left (every is_word ps) (every (every is_word) pss) t)) (each pss (and_right (every is_word ps) (every (every is_word) pss) t))

-- so no two lists of such lines have one text
pub lines_injective : (pss qss : List (List (List ℕ))) → T (every (every is_word) pss) → T (every (every is_word) qss) → lines pss ≡ lines qss → pss ≡ qss
lines_injective pss qss t u e = sym (read_lines_lem pss t) ∙ ap read_lines e ∙ read_lines_lem qss u

-- ---- Lines one after the other

pub lines_append : (pss qss : List (List (List ℕ))) → lines (pss ++ qss) ≡ lines pss ++ lines qss
unfolding lines
lines_append [] qss = refl
lines_append (ps ∷ pss) qss = ap (λ (l : List ℕ). line ps ++ l) (lines_append pss qss) ∙ sym (append_assoc (line ps) (lines pss) (lines qss))

-- one line more of a list made by a rule, as a loop lays it
pub lines_listed : (n : ℕ) (f : ℕ → List (List ℕ)) → lines (listed (n + 1) f) ≡ lines (listed n f) ++ line (f n)
unfolding lines listed
lines_listed n f = ap (λ (k : ℕ). lines (listed k f)) (add-one n) ∙ go n f
  where
    go : (n : ℕ) (f : ℕ → List (List ℕ)) → lines (listed (suc n) f) ≡ lines (listed n f) ++ line (f n)
    go zero f = append-nil (line (f 0))
    go (suc n) f = ap (λ (l : List ℕ). line (f 0) ++ l) (go n (λ i. f (suc i))) ∙ sym (append_assoc (line (f 0)) (lines (listed n (λ i. f (suc i)))) (line (f (suc n))))

-- ---- Lengths

-- the bytes of all parts
abbrev pub total : List (List ℕ) → ℕ
total [] = 0
total (p ∷ ps) = length p + total ps

-- after each part one byte more: a space, and after the last the line feed
pub length_line : (p : List ℕ) (ps : List (List ℕ)) → length (line (p ∷ ps)) ≡ total (p ∷ ps) + length (p ∷ ps)
unfolding line spaced
length_line p [] = rw (length-append p (line_feed ∷ [])) (omega arith)
length_line p (q ∷ ps) =
    ap length (append_assoc p (space ∷ spaced (q ∷ ps)) (line_feed ∷ [])) ∙ length-append p (space ∷ line (q ∷ ps))
    ∙ omega (arith, length_line q ps)

pub length_lines : (most : ℕ) (n : ℕ) (f : ℕ → List (List ℕ)) → ((i : ℕ) → i < n → length (line (f i)) ≤ most) → length (lines (listed n f)) ≤ n * most
unfolding lines listed
length_lines most zero f h = omega arith
length_lines most (suc n) f h =
    rw (length-append (line (f 0)) (lines (listed n (λ i. f (suc i)))))
    (omega (arith, h 0 (omega arith), length_lines most n (λ i. f (suc i)) (λ i b. h (suc i) (omega arith))))
