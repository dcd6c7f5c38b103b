-- What the code finds out once for all elements of an access.
use Rattle.addressing.specs.declared.Access.{Access}
use Rattle.addressing.specs.declared.Plan.{Plan}
use Rattle.view_indices.specs.Plans.{sizes_of, strides_of}
use Rattle.dimensions.specs.Dimensions.{tail_of, tail_numbers}
use Rattle.addressing.specs.Rules.{elements_of, clip_width, low_bits}

-- what the elements of an access share
unfoldable pub planned : Access → Plan
planned a =
    record {
      access = a;
      count = elements_of a;
      width = clip_width a.view a.columns;
      fill = low_bits a;
      sizes = sizes_of a.viewed a.layout a.view;
      strides = strides_of a.viewed a.layout a.view;
      tail = tail_of a.layout;
      numbers = tail_numbers a.layout;
    }
