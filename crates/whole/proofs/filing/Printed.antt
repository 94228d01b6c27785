-- With what the programs lend, the whole-file functions leave what filer and carder print.
use Prim.Native.Nat.{ℕ, ◌^◌, ◌<◌}
use mathlib.Core.Path.{◌≡◌, refl, ap, ◌∙◌}
use mathlib.Core.Bool.{cond}
use mathlib.Core.List.{List}
use Rattle.std.specs.Prelude.{Ok, Err, Option, Some, None}
use native.Mathlib.Omega.{arith}
use lib.Dec.{leb}
use lib.ListN.{length, take, drop}
use Rattle.plan.specs.declared.Refusal.{Refusal}
use Rattle.plan.specs.declared.Refusal.TheVariants.{LongInput}
use Rattle.plan.specs.declared.Version.TheVariants.{V19}
use Rattle.plan.specs.Refusals.{Parse, got, refused, ◌then◌}
use Rattle.plan.specs.Circuit.{Circuit, lengths_of}
use Rattle.plan.specs.Binary.{binary_of}
use Rattle.plan.specs.Programs.{lent_words, lent_bytes, refusal_line, printed, input, fitting}
use Rattle.plan.specs.Whole.{fitting_in}
use Rattle.plan.specs.Cards.{cards_of, read_cards, read_to_card, CardEntry, moved_by, file_whole, card_whole, filer, carder, filed_cards, carded_file}
use Rattle.laws.proofs.Put.{put_first}
use Rattle.laws.proofs.Reading.Differences.{Bytes}
use Rattle.laws.proofs.Reading.Exactly.{sound, formed}
use Rattle.whole.proofs.Bounds.{binary-most}
use Rattle.whole.proofs.Printed.{fits-alike}
use Rattle.cards.proofs.Laws.Exactly.{size_is, cards-state}
use Rattle.cards.proofs.Laws.Back.{card-parts}

-- what the programs lend, and an input of bytes
pub record Lends (e : CardEntry) : Type 0 where
  pub words : lengths_of e.tables e.scratch ≡ lent_words
  pub room : length e.out ≡ lent_bytes
  pub bytes : (file : List ℕ) → e.plan ≡ Some file → Bytes file

-- cards of a circuit that a file states are not long
card-most : (file : List ℕ) (c : Circuit) (start : ℕ) → Bytes file → read_to_card file lent_words ≡ got c start → length (cards_of c) < 2 ^ 64
card-most file c start bytes q =
    let p = card-parts file lent_words c start q in
    let w = formed V19 file c (drop start file) (sound V19 file lent_words bytes c start p.0).0 in
    omega (arith, size_is c w p.2 p.4, w.most-L, w.most-O, w.most-A)

module _ (e : CardEntry) (lends : Lends e) where
  -- a file is read alike, and what is made of its circuit fits alike
  read_alike : (read : List ℕ → List ℕ → Parse Circuit) (make : Circuit → List ℕ)
      → ((file : List ℕ) (c : Circuit) (start : ℕ) → Bytes file → read file lent_words ≡ got c start → length (make c) < 2 ^ 64)
      → (p : Option (List ℕ)) → e.plan ≡ p
      → (input p λ file. read file (lengths_of e.tables e.scratch) then λ c _. fitting_in e.out (make c))
      ≡ input p λ file. read file lent_words then λ c _. fitting (make c)
  read_alike read make small None q = refl
  read_alike read make small (Some file) q = ap (λ (r : Parse (List ℕ)). cond (leb (length file) 65536) r (refused (LongInput 65536))) here
    where
      by-circuit : (r : Parse Circuit) → read file lent_words ≡ r
          → (r then λ c _. fitting_in e.out (make c)) ≡ r then λ c _. fitting (make c)
      by-circuit (refused x) s = refl
      by-circuit (got c start) s = fits-alike e.out (make c) lends.room (small file c start (lends.bytes file q) s)

      here : (read file (lengths_of e.tables e.scratch) then λ c _. fitting_in e.out (make c))
          ≡ read file lent_words then λ c _. fitting (make c)
      here =
          ap (λ (words : List ℕ). read file words then λ c _. fitting_in e.out (make c)) lends.words
          ∙ by-circuit (read file lent_words) refl

  -- the first bytes of the buffer, or the line of the refusal
  bytes-printed : (p : Parse (List ℕ)) (k : ℕ) → (moved_by e p).answer ≡ Ok k → take k (moved_by e p).out ≡ printed p
  bytes-printed (got bytes n) k a =
      let k-is : k ≡ length bytes = cc in
      ap (λ (i : ℕ). take i (moved_by e (got bytes n)).out) k-is ∙ put_first e.out bytes
  bytes-printed (refused r) k a = let z : ◌≡◌ {A = ℕ} 0 1 = cc in absurd (omega arith)

  line-printed : (p : Parse (List ℕ)) (r : Refusal) → (moved_by e p).answer ≡ Err r → refusal_line r ≡ printed p
  line-printed (got bytes n) r a = let z : ◌≡◌ {A = ℕ} 0 1 = cc in absurd (omega arith)
  line-printed (refused q) r a = let same : r ≡ q = cc in ap refusal_line same

  filer-file : filed_cards e ≡ input e.plan λ file. read_cards file lent_words then λ c _. fitting (binary_of c)
  filer-file =
      read_alike read_cards binary_of
      (λ file c start bytes q. omega (arith, binary-most c (cards-state file lent_words c start q bytes).formed)) e.plan refl

  carder-file : carded_file e ≡ input e.plan λ file. read_to_card file lent_words then λ c _. fitting (cards_of c)
  carder-file = read_alike read_to_card cards_of card-most e.plan refl

  pub filer-bytes : (k : ℕ) → (file_whole e).answer ≡ Ok k → take k (file_whole e).out ≡ filer e.plan
  filer-bytes k a = bytes-printed (filed_cards e) k a ∙ ap printed filer-file

  pub filer-refusal : (r : Refusal) → (file_whole e).answer ≡ Err r → refusal_line r ≡ filer e.plan
  filer-refusal r a = line-printed (filed_cards e) r a ∙ ap printed filer-file

  pub carder-bytes : (k : ℕ) → (card_whole e).answer ≡ Ok k → take k (card_whole e).out ≡ carder e.plan
  carder-bytes k a = bytes-printed (carded_file e) k a ∙ ap printed carder-file

  pub carder-refusal : (r : Refusal) → (card_whole e).answer ≡ Err r → refusal_line r ≡ carder e.plan
  carder-refusal r a = line-printed (carded_file e) r a ∙ ap printed carder-file
