mod ChildNumbers
