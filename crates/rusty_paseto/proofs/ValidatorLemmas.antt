-- What the validators that stand ready find of lists.
use Rattle.std.proofs.Common.{◌≡◌, ℕ, List, [], ◌∷◌, ◌||◌, ap, refl, Some}
use Rattle.std.specs.List.{list_any}
use Rattle.serde_json.specs.View.{items_view, view}
use Rattle.serde_json.specs.declared.value.Value.{Value}
use Rattle.serde_json.specs.Data.{Data, Items, null, boolean, number, string, array, object}
use Rattle.serde_json.specs.Find.{as_array}
use Rattle.rusty_paseto.specs.Validators.{allowed, has_text, holding, is_text}

-- a text is among the items where one of them is the text
pub has_text_any : (text : List ℕ) (vs : List Value) → list_any (λ v. is_text text (view v)) vs ≡ has_text text (items_view vs)
has_text_any text [] = refl
has_text_any text (v ∷ vs) = ap (λ rest. is_text text (view v) || rest) (has_text_any text vs)

-- what is found of an array
pub holding_array : (text key : List ℕ) (value : Data) (items : Items) → Some items ≡ as_array value
    → holding text key value ≡ allowed (has_text text items) key
holding_array text key null items is = cc is
holding_array text key (boolean b) items is = cc is
holding_array text key (number n) items is = cc is
holding_array text key (string s) items is = cc is
holding_array text key (array others) items is = let same : items ≡ others = cc is in rw same refl
holding_array text key (object ms) items is = cc is
