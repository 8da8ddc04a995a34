-- The first lines of a text, and of the print of lines.
use Rattle.std.proofs.Common.{◌≡◌, ℕ, zero, suc, ◌<◌, ◌≤◌, true, List, [], ◌∷◌, ◌++◌, map, length, Some, None, refl, ap, sym, ◌∙◌, arith, append_assoc}
use Rattle.std.proofs.lemmas.Bool.{and_parts}
use Rattle.number_text.specs.Cut.{cut_of}
use Rattle.mdns_script.proofs.ReadTokens.{come_of, some_same}
use Rattle.mdns_print.specs.declared.line.Line.{Line}
use Rattle.mdns_print.specs.LineText.{line_text}
use Rattle.mdns_lines.specs.ReadLines.{line_in}
use Rattle.mdns_lines.specs.Printable.{is_printable_line}
use Rattle.mdns_lines.proofs.LinesBack.{content, content_back}
use Rattle.mdns_lines.proofs.OneLine.{line_cut}
use Rattle.mdns_transcript.specs.Leading.{first_lines}
use Rattle.mdns_transcript.proofs.RowTexts.{text_of}
use Rattle.mdns_transcript.proofs.RowTypes.{are_printable}

nothing_cut : cut_of 10 [] ≡ None
unfolding cut_of
nothing_cut = refl

-- the first line, and those behind it
record IsFirst (count : ℕ) (front after : List ℕ) (lines : List (List ℕ)) : Type 0 where
  rest : List (List ℕ)
  is : front ∷ rest ≡ lines
  more : first_lines count after ≡ Some rest

abbrev Pair : Type 0
Pair = List ℕ × List ℕ

first_of : (count : ℕ) (text front after : List ℕ) (lines : List (List ℕ)) → cut_of 10 text ≡ Some (front, after) → first_lines (suc count) text ≡ Some lines → IsFirst count front after lines
unfolding first_lines
first_of count text front after lines cut h =
    let c = come_of (cut_of 10 text) _ lines h in
    let d = come_of (first_lines count c.from.1) _ lines c.gives in
    let same : (front, after) ≡ c.from = some_same (front, after) c.from (sym cut ∙ c.is) in
    record {
      rest = d.from;
      is = ap (λ (p : Pair). p.0 ∷ d.from) same ∙ some_same (c.from.0 ∷ d.from) lines d.gives;
      more = ap (λ (p : Pair). first_lines count p.1) same ∙ d.is;
    }

none_first : (count : ℕ) (text : List ℕ) (lines : List (List ℕ)) → cut_of 10 text ≡ None → first_lines (suc count) text ≡ Some lines → ⊥
unfolding first_lines
none_first count text lines cut h =
    let c = come_of (cut_of 10 text) _ lines h in
    let no : None ≡ Some c.from = sym cut ∙ c.is in absurd (cc)

first_is : (count : ℕ) (text front after : List ℕ) (rest : List (List ℕ)) → cut_of 10 text ≡ Some (front, after) → first_lines count after ≡ Some rest → first_lines (suc count) text ≡ Some (front ∷ rest)
unfolding first_lines
first_is count text front after rest cut h = rw (cut, h) refl

-- the text of a line and more is cut behind the line
cut_behind : (l : Line) (ls : List Line) (rest : List ℕ) → is_printable_line l ≡ true → cut_of 10 (text_of (l ∷ ls) ++ rest) ≡ Some (content l, text_of ls ++ rest)
cut_behind l ls rest h = ap (cut_of 10) (append_assoc (line_text l) (text_of ls) rest) ∙ line_cut l (text_of ls ++ rest) h

-- lines that have the same text
pub same_line : (a b : Line) → is_printable_line a ≡ true → is_printable_line b ≡ true → content a ≡ content b → a ≡ b
same_line a b h k e = some_same a b (sym (content_back a h) ∙ ap line_in e ∙ content_back b k)

same_heads : (a b : List ℕ) (x y l : List (List ℕ)) → a ∷ x ≡ l → b ∷ y ≡ l → (a ≡ b) × (x ≡ y)
same_heads a b x y l h k = let e : a ∷ x ≡ b ∷ y = h ∙ sym k in (cc, cc)

-- the first lines of a text that begins with the print of lines
pub first_of_print : (seen : List Line) (rest : List ℕ) → are_printable seen ≡ true → first_lines (length seen) (text_of seen ++ rest) ≡ Some (map content seen)
unfolding first_lines
first_of_print [] rest h = refl
first_of_print (l ∷ seen) rest h =
    let p = and_parts (is_printable_line l) (are_printable seen) h in
    first_is (length seen) (text_of (l ∷ seen) ++ rest) (content l) (text_of seen ++ rest) (map content seen) (cut_behind l seen rest p.0) (first_of_print seen rest p.1)

-- the print of other lines that begins with them and a further line of the text
pub record IsAfter (seen ls : List Line) (front : List ℕ) : Type 0 where
  pub line : Line
  pub more : List Line
  pub is : ls ≡ seen ++ line ∷ more
  pub text : content line ≡ front
  pub fits : is_printable_line line ≡ true

pub further : (seen ls : List Line) (count : ℕ) (rest front after : List ℕ) (lines : List (List ℕ)) → are_printable seen ≡ true → are_printable ls ≡ true → length seen < count →
    cut_of 10 rest ≡ Some (front, after) → first_lines count (text_of seen ++ rest) ≡ Some lines → first_lines count (text_of ls) ≡ Some lines → IsAfter seen ls front
further seen ls zero rest front after lines h k less cut a b = absurd (omega arith)
further [] [] (suc count) rest front after lines h k less cut a b = absurd (none_first count [] lines nothing_cut b)
further [] (l ∷ ls) (suc count) rest front after lines h k less cut a b =
    let p = and_parts (is_printable_line l) (are_printable ls) k in
    let first = first_of count rest front after lines cut a in
    let other = first_of count (text_of (l ∷ ls)) (content l) (text_of ls) lines (line_cut l (text_of ls) p.0) b in
    record { line = l; more = ls; is = refl; text = (same_heads (content l) front other.rest first.rest lines other.is first.is).0; fits = p.0 }
further (s ∷ seen) [] (suc count) rest front after lines h k less cut a b = absurd (none_first count [] lines nothing_cut b)
further (s ∷ seen) (l ∷ ls) (suc count) rest front after lines h k less cut a b =
    let q = and_parts (is_printable_line s) (are_printable seen) h in
    let p = and_parts (is_printable_line l) (are_printable ls) k in
    let first = first_of count (text_of (s ∷ seen) ++ rest) (content s) (text_of seen ++ rest) lines (cut_behind s seen rest q.0) a in
    let other = first_of count (text_of (l ∷ ls)) (content l) (text_of ls) lines (line_cut l (text_of ls) p.0) b in
    let heads = same_heads (content l) (content s) other.rest first.rest lines other.is first.is in
    let line : l ≡ s = same_line l s p.0 q.0 heads.0 in
    let ih = further seen ls count rest front after first.rest q.1 p.1 (omega arith) cut first.more (other.more ∙ ap Some heads.1) in
    record { line = ih.line; more = ih.more; is = λ i. line i ∷ ih.is i; text = ih.text; fits = ih.fits }

-- a text that ends without a line feed behind lines has no more than these
pub no_more : (seen : List Line) (rest : List ℕ) (count : ℕ) (lines : List (List ℕ)) → are_printable seen ≡ true → cut_of 10 rest ≡ None → first_lines count (text_of seen ++ rest) ≡ Some lines → count ≤ length seen
no_more seen rest zero lines h cut a = omega arith
no_more [] rest (suc count) lines h cut a = absurd (none_first count rest lines cut a)
no_more (s ∷ seen) rest (suc count) lines h cut a =
    let q = and_parts (is_printable_line s) (are_printable seen) h in
    let first = first_of count (text_of (s ∷ seen) ++ rest) (content s) (text_of seen ++ rest) lines (cut_behind s seen rest q.0) a in
    let ih = no_more seen rest count first.rest q.1 cut first.more in
    omega arith

no_pair : (x : Pair) → Some x ≡ None → ⊥
no_pair x e = absurd (cc)

parts_same : (x y : Pair) → Some x ≡ Some y → (x.0 ≡ y.0) × (x.1 ≡ y.1)
parts_same x y h = let e = some_same x y h in (ap (λ (p : Pair). p.0) e, ap (λ (p : Pair). p.1) e)

-- lines whose print is a text are the lines of the text
pub same_lines : (seen ls : List Line) (rest : List ℕ) → are_printable seen ≡ true → are_printable ls ≡ true → cut_of 10 rest ≡ None → text_of ls ≡ text_of seen ++ rest → (ls ≡ seen) × (rest ≡ [])
same_lines [] [] rest h k cut e = (refl, sym e)
same_lines [] (l ∷ ls) rest h k cut e =
    let p = and_parts (is_printable_line l) (are_printable ls) k in
    let no : Some (content l, text_of ls) ≡ None = sym (line_cut l (text_of ls) p.0) ∙ ap (cut_of 10) e ∙ cut in absurd (no_pair (content l, text_of ls) no)
same_lines (s ∷ seen) [] rest h k cut e =
    let q = and_parts (is_printable_line s) (are_printable seen) h in
    let no : Some (content s, text_of seen ++ rest) ≡ None = sym (cut_behind s seen rest q.0) ∙ sym (ap (cut_of 10) e) ∙ nothing_cut in absurd (no_pair (content s, text_of seen ++ rest) no)
same_lines (s ∷ seen) (l ∷ ls) rest h k cut e =
    let q = and_parts (is_printable_line s) (are_printable seen) h in
    let p = and_parts (is_printable_line l) (are_printable ls) k in
    let parts = parts_same (content l, text_of ls) (content s, text_of seen ++ rest) (sym (line_cut l (text_of ls) p.0) ∙ ap (cut_of 10) e ∙ cut_behind s seen rest q.0) in
    let line : l ≡ s = same_line l s p.0 q.0 parts.0 in
    let ih = same_lines seen ls rest q.1 p.1 cut parts.1 in
    (λ i. line i ∷ ih.0 i, ih.1)

none_left : (text : List ℕ) → first_lines 0 text ≡ Some []
unfolding first_lines
none_left text = refl

-- a text has a further line behind those that were read
pub further_lines : (seen : List Line) (rest front after : List ℕ) → are_printable seen ≡ true → cut_of 10 rest ≡ Some (front, after) → first_lines (suc (length seen)) (text_of seen ++ rest) ≡ Some (map content seen ++ front ∷ [])
further_lines [] rest front after h cut = first_is 0 rest front after [] cut (none_left after)
further_lines (l ∷ seen) rest front after h cut =
    let p = and_parts (is_printable_line l) (are_printable seen) h in
    first_is (suc (length seen)) (text_of (l ∷ seen) ++ rest) (content l) (text_of seen ++ rest) (map content seen ++ front ∷ []) (cut_behind l seen rest p.0) (further_lines seen rest front after p.1 cut)
