-- Lists as their members.
use Rattle.std.proofs.Common.{◌≡◌, ℕ, suc, ◌+◌, ◌<◌, List, [], ◌∷◌, ◌++◌, length, get_or, take, drop, map, Some, None, refl, ap}
use Rattle.std.proofs.lemmas.List.{drop_more, take_more, map-append}
use Rattle.toml.specs.Data.{Data, string, integer, float, boolean, datetime, array, table, Members, no_members, as_array, as_table}
use Rattle.toml.specs.View.{view, items_view, items_of}
use Rattle.toml.specs.declared.value.Value.{Value}
use Rattle.std.specs.List.{list_all}
use Rattle.std.proofs.lemmas.List.Folds.{list_all-map}
use Rattle.fwd_settings.specs.Kinds.{data_in, list_of, each}
use Rattle.fwd_settings.specs.Keys.{table_of, is_standby}

data_in_items : (values : List Data) → data_in (items_of values) ≡ values
data_in_items [] = refl
data_in_items (value ∷ more) = ap (λ t. value ∷ t) (data_in_items more)

-- the members of an array
viewed : (values : List Value) → data_in (items_view values) ≡ map view values
viewed values = data_in_items (map view values)

pub array_seen : (value : Data) (values : List Value)
    → as_array value ≡ Some (items_view values) → list_of value ≡ Some (map view values)
array_seen (array items) values h = let same : items ≡ items_view values = cc in rw same (ap Some (viewed values))
array_seen (string text) values h = cc
array_seen (integer n) values h = cc
array_seen (float x) values h = cc
array_seen (boolean b) values h = cc
array_seen (datetime d) values h = cc
array_seen (table inside) values h = cc

pub no_array : (value : Data) → as_array value ≡ None → list_of value ≡ None
no_array (array items) h = cc
no_array (string text) h = refl
no_array (integer n) h = refl
no_array (float x) h = refl
no_array (boolean b) h = refl
no_array (datetime d) h = refl
no_array (table inside) h = refl

pub viewed_length : (values : List Value) → length (map view values) ≡ length values
viewed_length [] = refl
viewed_length (value ∷ more) = ap (λ n. suc n) (viewed_length more)

-- one member more of a list whose members are visited in turn
pub each_more : {A : Type 0} (test : ℕ → Data → A) (values : List Value) (i : ℕ) (v : Value)
    → i < length values
    → each test i (map view (drop i values)) ≡ test i (view (get_or values i v)) ∷ each test (i + 1)
    (map view (drop (i + 1) values))
each_more test values i v h = rw (drop_more values i v h)

pub map_more : {A : Type 0} (shown : Data → A) (values : List Value) (i : ℕ) (v : Value)
    → i < length values
    → map shown (map view (take (i + 1) values)) ≡ map shown (map view (take i values)) ++ shown
    (view (get_or values i v)) ∷ []
map_more shown values i v h = simp (take_more values i v h, map-append)

-- a value that is a table
pub table_seen : (value : Data) (shown : Members) → as_table value ≡ Some shown
    → value ≡ table shown
table_seen (table inside) shown h = cc
table_seen (array items) shown h = cc
table_seen (string text) shown h = cc
table_seen (integer n) shown h = cc
table_seen (float x) shown h = cc
table_seen (boolean b) shown h = cc
table_seen (datetime d) shown h = cc

-- a value that is none
pub no_table : (value : Data) → as_table value ≡ None → table_of value ≡ no_members
no_table (table inside) h = cc
no_table (array items) h = refl
no_table (string text) h = refl
no_table (integer n) h = refl
no_table (float x) h = refl
no_table (boolean b) h = refl
no_table (datetime d) h = refl

pub all_viewed : (values : List Value)
    → list_all is_standby (map view values)
    ≡ list_all (λ value. is_standby (view value)) values
all_viewed values = list_all-map is_standby view values
