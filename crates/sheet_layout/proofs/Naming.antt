-- What the numbers of a head name, and what a look answers by its rows. Assumes nothing.
use Rattle.std.specs.Prelude.{Err, Ok}
use Rattle.sheet_layout.specs.Head.{Look, headed, of_head}
use Rattle.std.specs.Prelude.{Err, None, Ok, Option, Some}
use Rattle.refusals.specs.Numbers.{Verdict}
use Rattle.std.specs.Prelude.{ℕ, ◌<◌, ◌≤◌, Bool, true, false, cond, not, ◌&&◌, ◌||◌, List, [], ◌∷◌, map, take, ◌↔◌, ◌≡◌, refl, length, T, eqb}
use Rattle.vocabulary.specs.{sym, ap, ap₂, ◌∙◌, dec_lt, arith, lt-ltb, le-ltb, lit≤, eqb→eq}
use Rattle.bits.specs.Bits.{field_at}
use Rattle.bits.proofs.Front.{field_in_front}
use Rattle.refusals.specs.{declared.Refusal.Refusal, Numbers.verdict_told}
use Rattle.refusals.specs.{Order.answer_of, Order.fails_if, Order.judged, Questions.none_of, Questions.among, Questions.asked}
use Rattle.figures.specs.declared.Figure.{Figure}
use Rattle.figures.specs.Figure.{description, figure_of, figure_names}
use Rattle.figures.proofs.Naming.{own_name, none_named, one_named}
use Rattle.sheet_layout.specs.{declared.Kind.Kind, Kinds.all_kinds, Kinds.number_of_kind}
use Rattle.sheet_layout.specs.declared.Kind.TheVariants.{One, Two, Three, Four, Five}
use Rattle.sheet_layout.specs.{Layout.sort, Layout.number_of_item, Layout.same, Layout.position_of, Layout.held}
use Rattle.sheet_layout.specs.Head.{kind_among, kind_of, kind_numbers, head_named, head_of, name_rows, head_rows, kind_number_in, code_in, n_in, look_after, look_of, look_told}

-- ---- kinds

kind_among_lem : (kinds : List Kind) (number : ℕ) (kind : Kind) → kind_among kinds number ≡ Some kind → number ≡ number_of_kind kind
kind_among_lem [] number kind e = cc
kind_among_lem (k ∷ others) number kind e = choose (eqb number (number_of_kind k)) (eqb→eq number (number_of_kind k)) (kind_among_lem others number kind) e
  where
    choose : (a : Bool) → (T a → number ≡ number_of_kind k) → (kind_among others number ≡ Some kind → number ≡ number_of_kind kind)
        → cond a (Some k) (kind_among others number) ≡ Some kind → number ≡ number_of_kind kind
    choose true own rest e = let same_kind : k ≡ kind = cc in own tt ∙ ap number_of_kind same_kind
    choose false own rest e = rest e

own_number : (kind : Kind) → kind_of (number_of_kind kind) ≡ Some kind
own_number One = refl
own_number Two = refl
own_number Three = refl
own_number Four = refl
own_number Five = refl

-- a number names a kind exactly if it is the kind's own
pub kind_exactly : (number : ℕ) (kind : Kind) → (kind_of number ≡ Some kind) ↔ (number ≡ number_of_kind kind)
kind_exactly number kind = (kind_among_lem all_kinds number kind, λ e. ap kind_of e ∙ own_number kind)

-- number 11 asks whether none is named
abbrev is_named : Option Kind → Bool
is_named (Some kind) = true
is_named None = false

among_numbers : (kinds : List Kind) (number : ℕ) → among (number ∷ []) (map (λ kind. number_of_kind kind ∷ []) kinds) ≡ is_named (kind_among kinds number)
among_numbers [] number = refl
among_numbers (kind ∷ others) number = choose (eqb number (number_of_kind kind)) _ (kind_among others number) (among_numbers others number)
  where
    choose : (a rest : Bool) (found : Option Kind) → rest ≡ is_named found → ((a && true) || rest) ≡ is_named (cond a (Some kind) found)
    choose true rest found e = refl
    choose false rest found e = e

module _ (number : ℕ) where
  pub no_kind_named : kind_of number ≡ None → asked (none_of (number ∷ []) kind_numbers) ≡ true
  no_kind_named e = ap not (among_numbers all_kinds number ∙ ap is_named e)

  pub one_kind_named : {kind : Kind} → kind_of number ≡ Some kind → asked (none_of (number ∷ []) kind_numbers) ≡ false
  one_kind_named e = ap not (among_numbers all_kinds number ∙ ap is_named e)

-- ---- kind and figure

module _ (kind code n : ℕ) where
  pub no_kind : kind_of kind ≡ None → head_of kind code n ≡ Err Refusal.NoSuchKind
  unfolding head_of
  no_kind e = ap (λ (a : Option Kind). head_named a (figure_of code n)) e

  pub no_figure : {named : Kind} → kind_of kind ≡ Some named → figure_of code n ≡ None → head_of kind code n ≡ Err Refusal.NoSuchFigure
  unfolding head_of
  no_figure e d = ap₂ head_named e d

  pub named : {named : Kind} {f : Figure} → kind_of kind ≡ Some named → figure_of code n ≡ Some f → head_of kind code n ≡ headed named f
  unfolding head_of
  named e d = ap₂ head_named e d

pub record Names (kind code n : ℕ) (k : Kind) (f : Figure) : Type 0 where
  pub kind_named : kind_of kind ≡ Some k
  pub figure_named_lem : figure_of code n ≡ Some f

pub head_names : (kind code n : ℕ) (k : Kind) (f : Figure) → head_of kind code n ≡ headed k f → Names kind code n k f
unfolding head_of
head_names kind code n k f e = go (kind_of kind) (figure_of code n) refl refl e
  where
    go : (a : Option Kind) (b : Option Figure) → kind_of kind ≡ a → figure_of code n ≡ b → head_named a b ≡ headed k f → Names kind code n k f
    go (Some l) (Some g) x y e = record {
      kind_named = x ∙ ap Some (ap (λ (look : Look). of_head look l (λ kind figure. kind)) e);
      figure_named_lem = y ∙ ap Some (ap (λ (look : Look). of_head look g (λ kind figure. figure)) e);
    }
    go (Some l) None x y e = record { kind_named = cc; figure_named_lem = cc }
    go None b x y e = record { kind_named = cc; figure_named_lem = cc }

-- the numbers of a kind and a figure name them
pub own_head : (kind : Kind) (f : Figure) → head_of (number_of_kind kind) (description f).code (description f).n ≡ headed kind f
own_head kind f = named (number_of_kind kind) (description f).code (description f).n (own_number kind) (own_name f)

-- ---- what the rows of a head answer

-- what a head says, as a verdict
abbrev pub head_verdict : Look → Verdict
head_verdict (Ok head) = Ok tt
head_verdict (Err refusal) = Err refusal

pub look_told_lem : (found : Look) → look_told found ≡ verdict_told (head_verdict found)
look_told_lem (Ok head) = refl
look_told_lem (Err refusal) = refl

abbrev answer : (noKind noFigure : Bool) → Verdict
answer a b = answer_of (fails_if a Refusal.NoSuchKind ∷ fails_if b Refusal.NoSuchFigure ∷ [])

pub names_judged : (kind code n : ℕ) → judged (name_rows kind code n) ≡ head_verdict (head_of kind code n)
unfolding head_of answer_of
names_judged kind code n = go (kind_of kind) (figure_of code n) refl refl
  where
    go : (a : Option Kind) (b : Option Figure) → kind_of kind ≡ a → figure_of code n ≡ b → judged (name_rows kind code n) ≡ head_verdict (head_named a b)
    go (Some k) (Some f) x y = ap₂ answer (one_kind_named kind x) (one_named code n y)
    go (Some k) None x y = ap₂ answer (one_kind_named kind x) (none_named code n y)
    go None b x y = ap (λ (a : Bool). answer a (asked (none_of (code ∷ n ∷ []) figure_names))) (no_kind_named kind x)

-- a look at a sheet
module _ (s : List ℕ) where
  abbrev head_in : Look
  head_in = head_of (kind_number_in s) (code_in s) (n_in s)

  short_judged : length s < 2 → judged (head_rows s) ≡ Err Refusal.WrongSheetLength
  unfolding head_rows answer_of
  short_judged h = rw (lt-ltb (length s) 2 h)

  long_judged : 2 ≤ length s → judged (head_rows s) ≡ head_verdict head_in
  unfolding head_rows answer_of
  long_judged h = rw (le-ltb (length s) 2 h) (names_judged (kind_number_in s) (code_in s) (n_in s))

  pub short : length s < 2 → look_of s ≡ Err Refusal.WrongSheetLength
  unfolding look_of
  short h = ap (λ (v : Verdict). look_after v head_in) (short_judged h)

  pub long_enough : 2 ≤ length s → look_of s ≡ head_in
  unfolding look_of
  long_enough h = ap (λ (v : Verdict). look_after v head_in) (long_judged h) ∙ itself head_in
    where
      itself : (found : Look) → look_after (head_verdict found) found ≡ found
      itself (Ok head) = refl
      itself (Err refusal) = refl

  pub look_judged : head_verdict (look_of s) ≡ judged (head_rows s)
  look_judged = go (dec_lt (length s) 2)
    where
      go : Dec (length s < 2) → head_verdict (look_of s) ≡ judged (head_rows s)
      go (yes h) = ap head_verdict (short h) ∙ sym (short_judged h)
      go (no h) =
          let long : 2 ≤ length s = omega arith in
          ap head_verdict (long_enough long) ∙ sym (long_judged long)

  pub look_names : (kind : Kind) (f : Figure) → look_of s ≡ headed kind f → Names (kind_number_in s) (code_in s) (n_in s) kind f
  unfolding look_of
  look_names kind f e = head_names (kind_number_in s) (code_in s) (n_in s) kind f (go (judged (head_rows s)) e)
    where
      go : (v : Verdict) → look_after v head_in ≡ headed kind f → head_in ≡ headed kind f
      go (Ok tt) e = e
      go (Err refusal) e = cc

  -- the fields of the head by their positions
  pub fields_decide : {kind code n : ℕ} → kind ≡ field_at s 0 4 → code ≡ field_at s 4 4 → n ≡ field_at s 8 4 → head_of kind code n ≡ head_in
  unfolding held position_of same sort number_of_item
  fields_decide k c m = rw (k, c, m)

  -- and of its two bytes alone
  pub front_decides : 2 ≤ length s → {kind code n : ℕ} → kind ≡ field_at (take 2 s) 0 4 → code ≡ field_at (take 2 s) 4 4 → n ≡ field_at (take 2 s) 8 4
      → head_of kind code n ≡ head_in
  front_decides long k c m =
      fields_decide (k ∙ field_in_front s 2 0 4 long (lit≤ tt) (lit≤ tt)) (c ∙ field_in_front s 2 4 4 long (lit≤ tt) (lit≤ tt)) (m ∙ field_in_front s 2 8 4 long (lit≤ tt) (lit≤ tt))
